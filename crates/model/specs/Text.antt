-- UTF-8: the Unicode standard's table of well-formed byte sequences (table 3-7). Overlong forms, surrogates and values past 10FFFF are no
-- rows of it.
use Rattle.std.specs.Prelude.{ℕ, Bool, true, false, cond, ◌&&◌, List, [], ◌∷◌, leb}
use Rattle.std.proofs.Math.Option.{Option, none, some}
use Rattle.model.specs.Choice.{given}
use Rattle.model.specs.Number.{Bytes}

-- from the first to the last, both included
pub record Range : Type 0 where
  pub first : ℕ
  pub last : ℕ

abbrev pub within : Range → ℕ → Bool
within r b = leb r.first b && leb b r.last

abbrev pub to : ℕ → ℕ → Range
to a b = record { first = a; last = b }

-- a row: the first byte's range, and the ranges of the bytes that follow it
pub record Row : Type 0 where
  pub lead : Range
  pub rest : List Range

abbrev row : Range → List Range → Row
row a l = record { lead = a; rest = l }

abbrev pub any-tail : Range
any-tail = to 0x80 0xbf

unfoldable pub well_formed : List Row
well_formed =
    row (to 0x00 0x7f) [] ∷
    row (to 0xc2 0xdf) (any-tail ∷ []) ∷
    row (to 0xe0 0xe0) (to 0xa0 0xbf ∷ any-tail ∷ []) ∷
    row (to 0xe1 0xec) (any-tail ∷ any-tail ∷ []) ∷
    row (to 0xed 0xed) (to 0x80 0x9f ∷ any-tail ∷ []) ∷
    row (to 0xee 0xef) (any-tail ∷ any-tail ∷ []) ∷
    row (to 0xf0 0xf0) (to 0x90 0xbf ∷ any-tail ∷ any-tail ∷ []) ∷
    row (to 0xf1 0xf3) (any-tail ∷ any-tail ∷ any-tail ∷ []) ∷
    row (to 0xf4 0xf4) (to 0x80 0x8f ∷ any-tail ∷ any-tail ∷ []) ∷ []

-- the ranges that follow a first byte, where a row has it
unfoldable pub following : List Row → ℕ → Option (List Range)
following [] b = none
following (r ∷ rows) b = cond (within r.lead b) (some r.rest) (following rows b)

-- whether the bytes are UTF-8, after a sequence that still wants bytes in some ranges
unfoldable pub text_after : List Range → Bytes → Bool
text_after [] [] = true
text_after (r ∷ rs) [] = false
text_after [] (b ∷ s) = given (following well_formed b) false (λ rs. text_after rs s)
text_after (r ∷ rs) (b ∷ s) = within r b && text_after rs s

abbrev pub is_text : Bytes → Bool
is_text v = text_after [] v
