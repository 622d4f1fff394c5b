-- Entries as they are lent: the record at a place, and the entries from a place on.
use mathlib.Core.Path.{◌≡◌, sym, ap, ap₂, ◌∙◌}
use mathlib.Core.Bool.{Bool, false}
use mathlib.Core.List.{[], ◌++◌}
use Prim.Native.Nat.{ℕ, ◌-◌, ◌≤◌}
use native.Mathlib.Omega.{arith}
use lib.ListN.{length, take, drop, take-append-drop, drop_of_length-le}
use lib.Seq.{drop-append-le, length-take-le}
use Rattle.model.specs.Number.{Bytes, AreBytes}
use Rattle.model.specs.Order.{Key}
use Rattle.model.specs.Shape.{stored, fault}
use Rattle.model.specs.Record.{Rec, record_bytes}
use Rattle.model.specs.Contents.{record_key, in_group_of}
use Rattle.laws.specs.Lists.{joined-append, all-append_right}
use Rattle.laws.specs.Split.{below, here, above}
use Rattle.laws_records.specs.Items.{AllPass, records-items}
use Rattle.entries.specs.Entries.{records_in, spelt, Entries, Placed, IsRecord, record_in}
use Rattle.entries.specs.declared.Cursor.{Cursor}
use Rattle.entries.proofs.Seeks.{no_records}
use Rattle.entries.proofs.Turns.{Stands, lent}
use Rattle.entries.proofs.Changes.{record-in}
use Rattle.entries.proofs.Parts.{entries_pass}
use Rattle.image_groups.specs.Groups.{begins_in}
use Rattle.image_groups.proofs.Together.{onward, split_onward}

-- 1. The record at a place

module _ {s : Bytes} {at start end : ℕ} {next : Cursor} (t : Stands s at start end next) where
  pub bounds : (start ≤ end) × (end ≤ length s)
  bounds = (omega (arith, t.first, t.last), omega (arith, t.last, t.entry.fits))

  pub lent_record : IsRecord (take (end - start) (drop start s))
  lent_record = record { value = t.entry.entry; bytes = lent s at start end next t; passes = t.entry.passes }

  pub lent-value : record_in (take (end - start) (drop start s)) ≡ t.entry.entry
  unfolding lent_record
  lent-value = record-in (take (end - start) (drop start s)) lent_record

-- 2. The first of some entries

pub none_past : (s : Bytes) (at : ℕ) → length s ≤ at → records_in (drop at s) ≡ []
none_past s at h = no_records (drop at s) (drop_of_length-le s h)

module _ (s : Bytes) (g : Rec) where
  pub first-here : {start end : ℕ} {next : Cursor} (t : Stands s 0 start end next) (r : Bool)
      → r ≡ in_group_of g (record_key (record_in (take (end - start) (drop start s)))) → r ≡ begins_in g (records_in s)
  unfolding begins_in
  first-here t r e = e ∙ ap (λ x. in_group_of g (record_key x)) (lent-value t) ∙ sym (ap (begins_in g) t.entry.list)

  pub first-none : length s ≤ 0 → false ≡ begins_in g (records_in s)
  unfolding begins_in
  first-none h = sym (ap (begins_in g) (none_past s 0 h))

-- 3. The entries from a place on

module _ (s : Bytes) (are_bytes : AreBytes s) (whole : Entries s) (k : Key) (at end : ℕ) (p : Placed s k at end) where
  spelt-onward : drop at s ≡ spelt (onward k (records_in s))
  spelt-onward =
      ap (drop at) (sym (take-append-drop end s))
      ∙ drop-append-le at (take end s) (drop end s) (rw (length-take-le end s p.most) p.order)
      ∙ ap₂ ◌++◌ p.found p.after
      ∙ sym (joined-append record_bytes (here record_key k (records_in s)) (above record_key k (records_in s)))

  onward_pass : AllPass stored (onward k (records_in s))
  onward_pass =
      let all : AllPass stored (records_in s) = entries_pass s are_bytes whole in
      all-append_right (λ r. fault stored r.kind r.run ≡ 0) (below record_key k (records_in s)) (onward k (records_in s))
      (rw (split_onward k (records_in s)) at all)

  pub onward-records : records_in (drop at s) ≡ onward k (records_in s)
  onward-records = ap records_in spelt-onward ∙ (records-items stored (onward k (records_in s)) onward_pass).0

  pub onward-entries : Entries (drop at s)
  onward-entries = rw spelt-onward (records-items stored (onward k (records_in s)) onward_pass).1
