-- The entry of a key by the bytes at its place: there is none where the place is empty, and else it is the record that the bytes are.
use mathlib.Core.Path.{◌≡◌, refl, sym, ap, ◌∙◌}
use mathlib.Core.Bool.{Bool, true, false, cond}
use mathlib.Core.Option.{none, some}
use Prim.Native.Nat.{ℕ, ◌-◌, ◌≤◌, ◌<◌}
use native.Mathlib.Omega.{arith}
use native.Mathlib.Decide.{dec_lt}
use borrow.Author.Tests.{lt-ltb, le-ltb}
use lib.Dec.{eqb, ltb}
use lib.ListN.{take, drop}
use lib.Seq.{slice}
use Rattle.model.specs.Choice.{is_some}
use Rattle.model.specs.Number.{Bytes, AreBytes}
use Rattle.model.specs.Order.{Key}
use Rattle.model.specs.Kind.{kind_number}
use Rattle.model.specs.Key.{rank, key_rank}
use Rattle.model.specs.Record.{Rec}
use Rattle.model.specs.Map.{get}
use Rattle.model.specs.Contents.{part, plain, key, record_key}
use Rattle.model.specs.Image.{entry_of}
use Rattle.model.specs.Move.{fields, run_at}
use Rattle.model.specs.declared.Kind.{Kind}
use Rattle.laws.specs.Choice.{over}
use Rattle.laws.specs.Map.{get-map, get_in}
use Rattle.laws_image.specs.Entries.{entry_key}
use Rattle.laws_image.specs.Ranks.{rank_injective, key_rank_lem}
use Rattle.keys.specs.Keys.{kind_in, run_in}
use Rattle.keys.proofs.Found.{lent_slice}
use Rattle.entries.specs.Entries.{records_in, Entries, Placed, IsRecord, record_in}
use Rattle.entries.proofs.Lookups.{absent, present}
use Rattle.image_entries.proofs.Records.{kind_in_lem, run_in_lem}
use Rattle.entries.specs.Held.{entries_in}

-- 1. The entry

-- an entry of a kind, by its bytes
pub record Held (s : Bytes) (k : Key) (of : Kind) (e : Bytes) : Type 0 where
  pub is : IsRecord e
  pub kind : kind_in e ≡ kind_number of
  pub found : get key k (entries_in s) ≡ some (entry_of (record_in e))

found_entry : (s : Bytes) (k : Key) → get key k (entries_in s) ≡ over entry_of (get record_key k (records_in s))
found_entry s k = get-map record_key key entry_of entry_key k (records_in s)

module _ (s : Bytes) {k : Key} {at end : ℕ} (p : Placed s k at end) where
  pub none-held : end ≤ at → get key k (entries_in s) ≡ none
  none-held empty = found_entry s k ∙ ap (over entry_of) (absent s k at end p empty)

  pub none-run : end ≤ at → run_at k (entries_in s) ≡ none
  unfolding fields
  none-run empty = ap fields (none-held empty)

  module _ (are_bytes : AreBytes s) (whole : Entries s) (longer : at < end) where
    -- as the place says it
    entry_there : IsRecord (slice at end s) × (get record_key k (records_in s) ≡ some (record_in (slice at end s)))
    entry_there = present s k at end p are_bytes whole longer

    of_kind : (of : Kind) → key_rank k ≡ rank of → 0 < rank of → (record_in (slice at end s)).kind ≡ of
    of_kind of e ranked =
        let r = record_in (slice at end s) in
        let same : record_key r ≡ k = (get_in record_key k (records_in s) r entry_there.1).1 in
        rank_injective r.kind of (sym (key_rank_lem r.kind r.run) ∙ ap key_rank same ∙ e) ranked

    at_place : (of : Kind) → key_rank k ≡ rank of → 0 < rank of → Held s k of (slice at end s)
    at_place of e ranked = record {
      is = entry_there.0;
      kind = kind_in_lem (slice at end s) entry_there.0 ∙ ap kind_number (of_kind of e ranked);
      found = found_entry s k ∙ ap (over entry_of) entry_there.1;
    }

    -- as it is lent
    pub held : (of : Kind) → key_rank k ≡ rank of → 0 < rank of → Held s k of (take (end - at) (drop at s))
    held of e ranked = rw (lent_slice s at end p.order) (at_place of e ranked)

  pub is_held : AreBytes s → Entries s → ltb at end ≡ is_some (get key k (entries_in s))
  is_held are_bytes whole = elim (dec_lt at end) [ yes q ↦ there q | no q ↦ nothing (omega arith) ]
    where
      there : at < end → ltb at end ≡ is_some (get key k (entries_in s))
      there q = lt-ltb at end q ∙ sym (ap is_some (found_entry s k ∙ ap (over entry_of) (entry_there are_bytes whole q).1))

      nothing : end ≤ at → ltb at end ≡ is_some (get key k (entries_in s))
      nothing q = le-ltb at end q ∙ sym (ap is_some (none-held q))

-- 2. Its fields, where it is no topic

entry_fields : (r : Rec) → eqb (kind_number r.kind) 1 ≡ false → fields (some (entry_of r)) ≡ some r.run
unfolding entry_of fields
entry_fields r h = rw h (go (eqb (kind_number r.kind) 2))
  where
    go : (b : Bool) → fields (some (cond b (part r.run) (plain r))) ≡ some r.run
    go true = unfold fields in refl
    go false = unfold fields in refl

pub held-run : {s : Bytes} {k : Key} {of : Kind} {e : Bytes} → Held s k of e → eqb (kind_number of) 1 ≡ false → run_at k (entries_in s) ≡ some (run_in e)
held-run {s} {k} {of} {e} h apart =
    let other : eqb (kind_number (record_in e).kind) 1 ≡ false = rw (← kind_in_lem e h.is, h.kind) apart in
    ap fields h.found ∙ entry_fields (record_in e) other ∙ ap some (sym (run_in_lem e h.is))
