-- Log offsets: -1, or not negative; and one that is above another.
use Rattle.std.specs.Prelude.{◌≡◌, Bool, ◌||◌, ◌⊎◌, ℕ, ◌-◌, ◌≤◌, ◌<◌}
use Rattle.std.proofs.Math.Path.{refl}
use Rattle.std.proofs.Math.Bool.{true, false}
use Rattle.std.proofs.Math.Logic.{inl, inr}
use Rattle.std.proofs.Common.{arith, ltb-true, ltb-false, eqb-true}
use Rattle.std.proofs.Math.Dec.{ltb, eqb}
use Rattle.model.specs.Number.{span, half, place, is_offset}
use Rattle.model.specs.Apply.{is_later}
use Rattle.laws.specs.Numbers.{place_nonnegative, place-negative}

module _ (n : ℕ) (h : is_offset n ≡ true) where
  cases : (n < half 8) ⊎ (n ≡ span 8 - 1)
  unfolding is_offset
  cases = go (ltb n (half 8)) refl h
    where
      go : (b : Bool) → ltb n (half 8) ≡ b → b || eqb n (span 8 - 1) ≡ true → (n < half 8) ⊎ (n ≡ span 8 - 1)
      go true e q = inl (ltb-true n (half 8) e)
      go false e q = inr (eqb-true n (span 8 - 1) q)

  pub offset-span : n < span 8
  offset-span = go cases
    where
      go : (n < half 8) ⊎ (n ≡ span 8 - 1) → n < span 8
      go (inl l) = omega arith
      go (inr e) = omega arith

  -- the place of an offset is at least that of -1
  offset_place_lem : half 8 - 1 ≤ place 8 n
  offset_place_lem = go cases
    where
      go : (n < half 8) ⊎ (n ≡ span 8 - 1) → half 8 - 1 ≤ place 8 n
      go (inl l) = rw (place_nonnegative 8 n l) (omega arith)
      go (inr e) = rw (place-negative 8 n (omega arith) (omega arith)) (omega arith)

-- what is above an offset is one, and is not negative
pub later-offset : (s n : ℕ) → is_offset s ≡ true → n < span 8 → is_later s n ≡ true → is_offset n ≡ true
unfolding is_offset
later-offset s n h k above = go (ltb n (half 8)) refl
  where
    low : half 8 - 1 ≤ place 8 s
    low = offset_place_lem s h

    more : place 8 s < place 8 n
    more = ltb-true (place 8 s) (place 8 n) above

    go : (b : Bool) → ltb n (half 8) ≡ b → ltb n (half 8) || eqb n (span 8 - 1) ≡ true
    go true e = rw e refl
    go false e = let q = place-negative 8 n (ltb-false n (half 8) e) k in absurd (omega (arith, low, more))
