-- "the old form still knows 25 kinds": behind records of the log, kind 26 is 3 at its place, whatever its body holds.
use Rattle.std.specs.Prelude.{◌≡◌, true, List, [], ◌∷◌, ◌++◌, ℕ, ◌+◌, ◌*◌, ◌≤◌, length}
use Rattle.std.proofs.Math.Path.{refl, ap}
use Rattle.std.proofs.Common.{◌∙◌, le-ltb}
use native.Mathlib.Omega.{arith}
use Rattle.model.specs.Choice.{joined}
use Rattle.model.specs.Number.{Bytes, is_offset}
use Rattle.model.specs.Kind.{kind_number}
use Rattle.model.specs.Shape.{logged}
use Rattle.model.specs.Record.{Rec, record_bytes, bad, read}
use Rattle.model.specs.Items.{items_from, items_of}
use Rattle.model.specs.Convert.{fails, run_checked, with_offset_of}
use Rattle.model.specs.declared.Kind.TheVariants.{LogOffset}
use Rattle.laws.specs.Lists.{all_imp}
use Rattle.laws_records.specs.Kinds.{kind_number_lem}
use Rattle.laws_records.specs.Items.{AllPass, items-append, items_bad}
use Rattle.laws_records.specs.Framed.{logged_no_offset}
use Rattle.laws_convert.specs.Checks.{Undated, run-placed}

module _ (high low : ℕ) (s : Bytes) (fits : high * 256 + low ≤ length s) where
  unknown-read : read logged (26 ∷ high ∷ low ∷ s) ≡ bad 3
  unfolding read kind_number
  unknown-read = rw (le-ltb _ _ fits, kind_number_lem LogOffset) refl

  module _ (rs : List Rec) (ok : AllPass logged rs) where
    abbrev place : ℕ
    place = length (joined record_bytes rs)

    run_fails : run_checked (items_of logged (joined record_bytes rs ++ (26 ∷ high ∷ low ∷ s))) ≡ fails 3 place
    unfolding run_checked
    run_fails =
        ap run_checked (items-append logged 0 rs (26 ∷ high ∷ low ∷ s) ok)
        ∙ run-placed 0 rs (λ p. items_from logged 0 p (26 ∷ high ∷ low ∷ s)) (all_imp _ Undated (λ r p. logged_no_offset r p) rs ok)
        ∙ ap run_checked (items_bad logged (0 + place) 26 (high ∷ low ∷ s) 3 unknown-read)
        ∙ ap (fails 3) (let e : 0 + place ≡ place = omega arith in e)

    pub offset-unknown : (n : ℕ) → is_offset n ≡ true → (out : Bytes)
        → with_offset_of (joined record_bytes rs ++ (26 ∷ high ∷ low ∷ s)) n out
        ≡ record { reply = record { number = 3; values = place ∷ [] }; buffer = out }
    unfolding with_offset_of
    offset-unknown n h out = rw (h, run_fails) refl
