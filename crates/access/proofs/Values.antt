-- A field's number, by what was found.
use mathlib.Core.Path.{◌≡◌, sym, ◌∙◌}
use mathlib.Core.Option.{none, some}
use Prim.Native.Nat.{ℕ, ◌+◌}
use native.Mathlib.Omega.{arith}
use borrow.Author.Tests.{eq-eqb, ne_eqb}
use lib.Dec.{eqb}
use lib.ListN.{length, get_or}
use lib.Seq.{slice, length-slice}
use Rattle.model.specs.Number.{Bytes, number}
use Rattle.laws.specs.Choice.{cond_same}
use Rattle.fields.specs.Fields.{held, Within}
use Rattle.fields.specs.declared.Found.{Found}
use Rattle.fields.specs.declared.Found.TheVariants.{Part, Missing}
use Rattle.fields.proofs.Took.{within-part}
use Rattle.access.specs.Access.{record_field, width_number, field_number, number_in}
use Rattle.access.proofs.Body.{field_cut}

-- 1. By the field

module _ (s : Bytes) (tag width : ℕ) where
  number-none : record_field s tag ≡ none → none ≡ field_number s tag width
  unfolding field_number
  number-none e = rw e

  module _ {r : Found} (e : held s r ≡ record_field s tag) where
    pub number-missing : r ≡ Missing → none ≡ field_number s tag width
    unfolding held
    number-missing h = number-none (sym e ∙ rw h)

    module _ {start len : ℕ} (h : r ≡ Part start len) (w : Within (length s) r) where
      number-found : field_number s tag width ≡ width_number width (slice start (start + len) s)
      unfolding field_number held
      number-found = rw (← e, h)

      length_found : length (slice start (start + len) s) ≡ len
      length_found = length-slice start (start + len) s (within-part h w) ∙ omega arith

      pub number_part_lem : (n : ℕ) → len ≡ width → n ≡ number (slice start (start + width) s) → some n ≡ field_number s tag width
      number_part_lem n k q = sym (number-found ∙ rw (eq-eqb _ _ (length_found ∙ k), k, q))

      pub number_other : (len ≡ width → ⊥) → none ≡ field_number s tag width
      number_other k = sym (number-found ∙ rw (ne_eqb _ _ (λ q. k (sym length_found ∙ q))))

  -- 2. By the kind

  pub number_empty : (kind : ℕ) → length s ≡ 0 → none ≡ number_in s kind tag width
  unfolding number_in
  number_empty kind h = rw (← number-none (field_cut s tag (omega arith))) (sym (cond_same (eqb (get_or s 0 0) kind) none))

  pub other_kind : (kind : ℕ) → (get_or s 0 0 ≡ kind → ⊥) → none ≡ number_in s kind tag width
  unfolding number_in
  other_kind kind h = rw (ne_eqb _ _ h)

  pub of_kind : (kind : ℕ) → get_or s 0 0 ≡ kind → field_number s tag width ≡ number_in s kind tag width
  unfolding number_in
  of_kind kind h = rw (eq-eqb _ _ h)
