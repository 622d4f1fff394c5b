-- The entries before a turn of a walk, with it, and with all.
use mathlib.Core.Path.{◌≡◌, sym, ap, ◌∙◌}
use mathlib.Core.List.{List, [], ◌∷◌, ◌++◌, append-nil}
use Prim.Native.Nat.{ℕ}
use lib.ListN.{take, drop, take-append-drop}
use lib.Seq.{take-add}
use Rattle.model.specs.Number.{Bytes, AreBytes}
use Rattle.model.specs.Shape.{stored, fault}
use Rattle.model.specs.Record.{Rec, record_bytes}
use Rattle.laws.specs.Numbers.{take_are_bytes, drop_are_bytes}
use Rattle.laws.specs.Lists.{all_append, joined-append}
use Rattle.laws_records.specs.Items.{AllPass, records-items}
use Rattle.fields.proofs.Parse.{take-drop}
use Rattle.entries.specs.Entries.{records_in, spelt, Entries, size_at}
use Rattle.entries.specs.declared.Cursor.{Cursor}
use Rattle.entries.proofs.Parts.{entries_pass}
use Rattle.entries.proofs.Seeks.{entries-spelt}
use Rattle.entries.proofs.Turns.{Stands}

module _ {s : Bytes} {at start end : ℕ} {next : Cursor} (t : Stands s at start end next) (are_bytes : AreBytes s) (passed : Entries (take at s)) where
  front_pass : AllPass stored (records_in (take at s))
  front_pass = entries_pass (take at s) (take_are_bytes at s are_bytes) passed

  front-spelt : spelt (records_in (take at s)) ≡ take at s
  front-spelt = entries-spelt (take at s) (take_are_bytes at s are_bytes) passed

  spells : (l : List Rec) (b : Bytes) → AllPass stored l → take at s ++ spelt l ≡ b → (records_in b ≡ records_in (take at s) ++ l) × Entries b
  spells l b pass e =
      let front = records_in (take at s) in
      let whole : spelt (front ++ l) ≡ b = joined-append record_bytes front l ∙ ap (λ x. x ++ spelt l) front-spelt ∙ e in
      rw (← whole) (records-items stored (front ++ l) (all_append (λ r. fault stored r.kind r.run ≡ 0) front l front_pass pass))

  pub up_to : (records_in (take end s) ≡ records_in (take at s) ++ t.entry.entry ∷ []) × Entries (take end s)
  up_to =
      spells (t.entry.entry ∷ []) (take end s) (t.entry.passes, tt)
      (ap (λ x. take at s ++ x) (append-nil (record_bytes t.entry.entry) ∙ sym (take-drop at (size_at s at) s ∙ t.entry.bytes_are))
      ∙ sym (take-add at (size_at s at) s)
      ∙ ap (λ x. take x s) (sym t.last))

  pub all_records_lem : Entries (drop at s) → records_in s ≡ records_in (take at s) ++ t.entry.entry ∷ records_in (drop end s)
  all_records_lem left =
      (spells (records_in (drop at s)) s (entries_pass (drop at s) (drop_are_bytes at s are_bytes) left)
      (ap (λ x. take at s ++ x) (entries-spelt (drop at s) (drop_are_bytes at s are_bytes) left) ∙ take-append-drop at s)).0
      ∙ ap (λ l. records_in (take at s) ++ l) (t.entry.list ∙ ap (λ x. t.entry.entry ∷ records_in (drop x s)) (sym t.last))
