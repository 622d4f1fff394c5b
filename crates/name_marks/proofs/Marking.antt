-- The two walks over a list: up to the first name that is not below a scope, then on as long as the names fit it.
use mathlib.Core.Path.{◌≡◌, refl, sym, ap, ◌∙◌}
use mathlib.Core.Bool.{Bool, true, false, not}
use mathlib.Core.List.{[], ◌∷◌, ◌++◌}
use Prim.Native.Nat.{ℕ, ◌+◌, ◌*◌, ◌≤◌, ◌<◌}
use native.Mathlib.Omega.{arith}
use lib.ListN.{length, take, drop, length-append}
use borrow.Author.Tests.{not-false}
use Rattle.model.specs.Choice.{every}
use Rattle.model.specs.Number.{Bytes, bytes}
use Rattle.laws.specs.Choice.{and_both, and_left, and_right}
use Rattle.laws.specs.Lists.{every_append}
use Rattle.names.specs.Lists.{size_at}
use Rattle.names.proofs.Walks.{part}
use Rattle.name_marks.specs.Marks.{fits_name, marked, jobs, Place, left, below, BehindAt, Reached}
use Rattle.name_marks.specs.Laws.{marked_nothing}
use Rattle.name_marks.proofs.Onward.{left-none, not_torn, onward, passed_on, left_on, rising-left}
use Rattle.name_marks.proofs.Fitting.{rising_on, below_unfit, none-behind}
use Rattle.name_marks.proofs.Written.{marked-length, marked-before, marked-one}

-- 1. Up to the first name that is not below the scope

module _ {list scope : Bytes} {at n : ℕ} (b : BehindAt list at n scope) where
  pub reached-end : length list ≤ at → Reached list at n scope
  reached-end h = record { behind = b; on = ap (every (λ name. not (below scope name))) (left-none b.place h) }

  module _ (h : at < length list) where
    pub behind-whole : length list < at + 2 + size_at list at → ⊥
    behind-whole = not_torn b.place h

    module _ {from to : ℕ} (named : (from ≡ at + 2) × (to ≡ from + size_at list at) × (to ≤ length list))
        {r : Bool} (er : r ≡ below scope (part from to list)) where
      pub reached-here : not r ≡ true → Reached list at n scope
      reached-here q = record { behind = b; on = ap (every (λ name. not (below scope name))) (left_on b.place h named) ∙ all }
        where
          on : not (below scope (part from to list)) ≡ true
          on = ap not (sym er) ∙ q

          all : every (λ name. not (below scope name)) (part from to list ∷ left (onward b.place h named)) ≡ true
          all =
              and_both (not (below scope (part from to list))) (every (λ name. not (below scope name)) (left (onward b.place h named))) on
              (rising_on scope (part from to list) (left (onward b.place h named)) on (rising-left b.place h named))

      pub behind_on : not r ≡ false → BehindAt list to (n + 1) scope
      behind_on q = record {
        place = onward b.place h named;
        before =
            ap (every (below scope)) (passed_on b.place h named) ∙ every_append (below scope) b.place.passed (part from to list ∷ [])
            ∙ and_both (every (below scope) b.place.passed) (every (below scope) (part from to list ∷ [])) b.before
            (and_both (below scope (part from to list)) true (sym er ∙ not-false r q) refl);
      }

-- 2. On as long as the names fit: the names before the place have their marks, and none from it on is below the scope

pub record Marking (list scope : Bytes) (literal : Bool) (index : ℕ) (out₀ out : Bytes) (at n : ℕ) : Type 0 where
  pub place : Place list at n
  pub on : every (λ name. not (below scope name)) (left place) ≡ true
  pub is : out ≡ marked (fits_name literal scope) index place.passed out₀

pub marking_start : {list scope : Bytes} {at n : ℕ} (literal : Bool) (index : ℕ) (out₀ : Bytes) → Reached list at n scope
    → Marking list scope literal index out₀ out₀ at n
marking_start {scope = scope} literal index out₀ r =
    let b = r.behind in
    record {
      place = b.place;
      on = r.on;
      is = sym (marked_nothing (fits_name literal scope) index b.place.passed out₀ (below_unfit literal scope b.place.passed b.before));
    }

module _ {list scope : Bytes} {literal : Bool} {index : ℕ} {out₀ out : Bytes} {at n : ℕ} (m : Marking list scope literal index out₀ out at n) where
  -- where none that is left fits, all marks are there
  ended : every (λ name. not (fits_name literal scope name)) (left m.place) ≡ true → out ≡ marked (fits_name literal scope) index (jobs list) out₀
  ended h =
      m.is ∙ sym (marked-before (fits_name literal scope) index m.place.passed (left m.place) out₀ h)
      ∙ ap (λ ns. marked (fits_name literal scope) index ns out₀) (sym m.place.all)

  pub marking_length : length out ≡ length out₀
  marking_length = ap length m.is ∙ marked-length (fits_name literal scope) index m.place.passed out₀

  pub marking_end : length list ≤ at → out ≡ marked (fits_name literal scope) index (jobs list) out₀
  marking_end h = ended (ap (every (λ name. not (fits_name literal scope name))) (left-none m.place h))

  module _ (h : at < length list) where
    pub marking_whole : length list < at + 2 + size_at list at → ⊥
    marking_whole = not_torn m.place h

    module _ {from to : ℕ} (named : (from ≡ at + 2) × (to ≡ from + size_at list at) × (to ≤ length list)) where
      here_on : every (λ name. not (below scope name)) (part from to list ∷ left (onward m.place h named)) ≡ true
      here_on = sym (ap (every (λ name. not (below scope name))) (left_on m.place h named)) ∙ m.on

      -- the output has room for the name's index
      pub marking_room : 2 * length (jobs list) ≤ length out₀ → 2 * n + 2 ≤ length out₀
      marking_room k =
          omega (
            arith,
            ap length m.place.all,
            length-append m.place.passed (left m.place),
            ap length (left_on m.place h named),
            m.place.count,
          )

      pub marking_fits : 2 * length (jobs list) ≤ length out₀ → 2 * n + 2 ≤ length out
      marking_fits k = omega (arith, marking_room k, marking_length)

      module _ {r : Bool} (er : r ≡ fits_name literal scope (part from to list)) where
        pub marking_unfit : not r ≡ true → out ≡ marked (fits_name literal scope) index (jobs list) out₀
        marking_unfit q =
            ended
            (ap (every (λ name. not (fits_name literal scope name))) (left_on m.place h named)
            ∙ none-behind literal scope (part from to list)
            (and_left (not (below scope (part from to list))) (every (λ name. not (below scope name)) (left (onward m.place h named))) here_on)
            (ap not (sym er) ∙ q) (left (onward m.place h named)) (rising-left m.place h named))

        pub marking_on : 2 * length (jobs list) ≤ length out₀ → not r ≡ false → (out' : Bytes)
            → out' ≡ take (2 * n) out ++ bytes 2 index ++ drop (2 * n + 2) out → Marking list scope literal index out₀ out' to (n + 1)
        marking_on k q out' e = record {
          place = onward m.place h named;
          on = and_right (not (below scope (part from to list))) (every (λ name. not (below scope name)) (left (onward m.place h named))) here_on;
          is =
              e
              ∙ marked-one (fits_name literal scope) index m.place.passed (part from to list) out₀ out m.place.count (marking_room k) (sym er ∙ not-false r q) m.is
              ∙ ap (λ ns. marked (fits_name literal scope) index ns out₀) (sym (passed_on m.place h named));
        }
