-- Looking for a topic that is named for an id: from the walk's place on, the entries decide for all.
use mathlib.Core.Path.{◌≡◌, refl, sym, ap, ◌∙◌, subst}
use mathlib.Core.List.{List, map}
use mathlib.Core.Bool.{Bool, true, false, ◌&&◌, not}
use Prim.Native.Nat.{ℕ, ◌-◌, ◌≤◌}
use lib.ListN.{length, take, drop, drop_of_length-le}
use Rattle.model.specs.Number.{Bytes}
use Rattle.model.specs.Record.{Rec}
use Rattle.model.specs.Contents.{names_id}
use Rattle.model.specs.Image.{entry_of}
use Rattle.entries.specs.Entries.{records_in, Entries, record_in}
use Rattle.entries.specs.declared.Cursor.{Cursor}
use Rattle.entries.proofs.Seeks.{no_records}
use Rattle.entries.proofs.Turns.{Stands}
use Rattle.image_ids.proofs.Apart.{none_names}
use Rattle.image_ids.proofs.Turns.{next-end, record-here, list, rest}

-- no record's entry is named for the id
abbrev pub none_in : Bytes → List Rec → Bool
none_in id l = none_names id (map entry_of l)

pub scanned_as : (s a b : Bytes) → a ≡ b → (r : Bool) → r ≡ none_in a (records_in s) → r ≡ none_in b (records_in s)
scanned_as s a b e r h = h ∙ ap (λ id. none_in id (records_in s)) e

pub record Scanned (s id : Bytes) (at : ℕ) : Type 0 where
  pub entries : Entries (drop at s)
  pub same : none_in id (records_in (drop at s)) ≡ none_in id (records_in s)

pub scan_start : (s id : Bytes) → Entries s → Scanned s id 0
scan_start s id e = record { entries = e; same = refl }

pub scan_end : {s id : Bytes} {at : ℕ} → Scanned s id at → length s ≤ at → true ≡ none_in id (records_in s)
scan_end {s} {id} {at} h past = ap (none_in id) (sym (no_records (drop at s) (drop_of_length-le s past))) ∙ h.same

module _ {s id : Bytes} {at start end : ℕ} {next : Cursor} (h : Scanned s id at) (t : Stands s at start end next) (b : Bool)
    (says : b ≡ names_id id (entry_of (record_in (take (end - start) (drop start s))))) where
  decides : not b && none_in id (records_in (drop end s)) ≡ none_in id (records_in s)
  decides =
      ap (λ x. not x && none_in id (records_in (drop end s))) (says ∙ ap (λ r. names_id id (entry_of r)) (record-here t))
      ∙ ap (none_in id) (sym (list t))
      ∙ h.same

  pub scan_found : b ≡ true → false ≡ none_in id (records_in s)
  scan_found e = ap (λ x. not x && none_in id (records_in (drop end s))) (sym e) ∙ decides

  pub scan_passed : b ≡ false → Scanned s id next.at
  scan_passed e =
      let p : Scanned s id end = record {
        entries = rest t;
        same = ap (λ x. not x && none_in id (records_in (drop end s))) (sym e) ∙ decides;
      } in
      subst (λ x. Scanned s id x) (sym (next-end t)) p
