-- The whole number of a value, one lemma an exit: the range, and the double of its whole part.
use Rattle.std.proofs.Common.{◌≡◌, Bool, true, false, not, T, ℤ, pos, sym, refl, eq-eqb, ne_eqb}
use lib.Ieee.{Float, fin, binary64, le, lt, eq, to_signed, of_int}
use Rattle.quota.specs.Quota.{exactly_of, whole_of}
use Rattle.quota.specs.declared.Quota.{Quota}
use Rattle.quota.specs.declared.Whole.{Whole}
use Rattle.quota.specs.declared.Whole.TheVariants.{Is, None}

fails : (b : Bool) → not b ≡ true → b ≡ false
fails true h = sym h
fails false h = refl

holds : (b : Bool) → not b ≡ false → b ≡ true
holds true h = refl
holds false h = sym h

abbrev lowest : Float → Bool
lowest x = le (fin true 1 (pos 63)) x

abbrev highest : Float → Bool
highest x = lt x (fin false 1 (pos 63))

abbrev least : Quota → Bool
least q = le (fin true 1 (pos 53)) q.value

abbrev greatest : Quota → Bool
greatest q = le q.value (fin false 1 (pos 53))

module _ (x : Float) where
  pub too_low : not (lowest x) ≡ true → None ≡ exactly_of x
  unfolding exactly_of
  too_low h = rw (fails (lowest x) h)

  module _ (low : not (lowest x) ≡ false) where
    pub too_high : not (highest x) ≡ true → None ≡ exactly_of x
    unfolding exactly_of
    too_high h = rw (holds (lowest x) low, fails (highest x) h)

    pub is_signed : not (highest x) ≡ false → T (lowest x) × T (highest x)
    is_signed h = (rw (holds (lowest x) low) tt, rw (holds (highest x) h) tt)

    module _ (high : not (highest x) ≡ false) (z : ℤ) (q : z ≡ to_signed 63 x) (y : Float) (e : y ≡ of_int binary64 z) where
      pub other : not (eq y x) ≡ true → None ≡ exactly_of x
      unfolding exactly_of
      other h = rw (← q, ← e, holds (lowest x) low, holds (highest x) high, fails (eq y x) h)

      pub same : not (eq y x) ≡ false → Is z ≡ exactly_of x
      unfolding exactly_of
      same h = rw (← q, ← e, holds (lowest x) low, holds (highest x) high, holds (eq y x) h)

module _ (q : Quota) where
  pub no_number : not q.number ≡ true → None ≡ whole_of q
  unfolding whole_of
  no_number h = rw (fails q.number h)

  module _ (n : not q.number ≡ false) where
    pub minus_zero : q.bits ≡ 0x8000000000000000 → None ≡ whole_of q
    unfolding whole_of
    minus_zero h = rw (holds q.number n, eq-eqb _ _ h)

    module _ (z : q.bits ≡ 0x8000000000000000 → ⊥) where
      pub below_range : not (least q) ≡ true → None ≡ whole_of q
      unfolding whole_of
      below_range h = rw (holds q.number n, ne_eqb _ _ z, fails (least q) h)

      module _ (low : not (least q) ≡ false) where
        pub above_range : not (greatest q) ≡ true → None ≡ whole_of q
        unfolding whole_of
        above_range h = rw (holds q.number n, ne_eqb _ _ z, holds (least q) low, fails (greatest q) h)

        pub in_range : not (greatest q) ≡ false → (r : Whole) → r ≡ exactly_of q.value → r ≡ whole_of q
        unfolding whole_of
        in_range h r e = rw (holds q.number n, ne_eqb _ _ z, holds (least q) low, holds (greatest q) h) e
