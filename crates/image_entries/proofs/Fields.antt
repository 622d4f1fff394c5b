-- One field of an entry: whether it is there, and whether its value is empty.
use mathlib.Core.Path.{◌≡◌, sym, ap, ◌∙◌}
use mathlib.Core.List.{[], ◌∷◌}
use mathlib.Core.Bool.{true, false}
use Prim.Native.Nat.{ℕ, ◌+◌, ◌≤◌}
use native.Mathlib.Omega.{arith}
use borrow.Author.Tests.{eq-eqb, ne_eqb}
use lib.Dec.{eqb}
use lib.ListN.{length}
use lib.Seq.{slice}
use Rattle.model.specs.Choice.{is_some, is_empty}
use Rattle.model.specs.Number.{Bytes}
use Rattle.model.specs.Run.{field, value}
use Rattle.fields.specs.Fields.{fields_from, held}
use Rattle.fields.specs.declared.Found.{Found}
use Rattle.fields.specs.declared.Found.TheVariants.{Part, Missing}
use Rattle.keys.specs.Keys.{run_in}
use Rattle.keys.proofs.Found.{field-part, field-missing, part_length}
use Rattle.keys.proofs.Elements.{begins}
use Rattle.entries.specs.Entries.{IsRecord, record_in}
use Rattle.image_entries.proofs.Records.{run_in_lem}

module _ (e : Bytes) (i : IsRecord e) (tag : ℕ) where
  found_in_lem : field tag (fields_from e (record { at = 3; to = length e })) ≡ field tag (record_in e).run
  found_in_lem = ap (field tag) (begins e ∙ run_in_lem e i)

  module _ {r : Found} (h : held e r ≡ field tag (fields_from e (record { at = 3; to = length e }))) where
    pub is_there : {start len : ℕ} → r ≡ Part start len → true ≡ is_some (field tag (record_in e).run)
    is_there p = sym (ap is_some (field-part e tag (record_in e).run (h ∙ found_in_lem) p))

    pub is_missing : r ≡ Missing → false ≡ is_some (field tag (record_in e).run)
    is_missing p = sym (ap is_some (field-missing e tag (record_in e).run (h ∙ found_in_lem) p))

  module _ (start end : ℕ) (h : (slice start end e ≡ value tag (run_in e)) × (start ≤ end) × (end ≤ length e)) where
    part_is : slice start end e ≡ value tag (record_in e).run
    part_is = h.0 ∙ ap (value tag) (run_in_lem e i)

    ends : end ≡ start + length (value tag (record_in e).run)
    ends = part_length e start end (value tag (record_in e).run) h.1 h.2 part_is

    pub is_empty_lem : eqb start end ≡ is_empty (value tag (record_in e).run)
    is_empty_lem = go (value tag (record_in e).run) ends
      where
        go : (v : Bytes) → end ≡ start + length v → eqb start end ≡ is_empty v
        go [] q = eq-eqb start end (omega arith)
        go (x ∷ v) q = ne_eqb start end (λ p. omega arith)
