-- The three ways of the epoch's step, and the fixed parts after a record by its first byte.
use mathlib.Core.Path.{◌≡◌, refl, ◌∙◌}
use mathlib.Core.Bool.{false, cond}
use Prim.Native.Nat.{ℕ, ◌+◌, ◌≤◌, ◌<◌}
use native.Mathlib.Omega.{arith}
use borrow.Author.Tests.{eq-eqb, ne_eqb, le-leb, lt-leb, lt-ltb, le-ltb}
use lib.Dec.{eqb}
use lib.ListN.{length}
use Rattle.model.specs.Number.{Bytes, number, half}
use Rattle.model.specs.Run.{value}
use Rattle.model.specs.Kind.{kind_number}
use Rattle.model.specs.Shape.{rows_of, shape_of}
use Rattle.model.specs.Move.{bumped}
use Rattle.model.specs.declared.Kind.TheVariants.{KRaftVersion, FeaturesEpoch}
use Rattle.keys.specs.Keys.{kind_in, run_in}
use Rattle.find.specs.Logged.{IsLogged, logged_in}
use Rattle.find.proofs.Logged.{kind_in_lem, run_in_lem, value_of}
use Rattle.apply_plan.specs.Fixed.{epoch_after, kraft_after}

-- 1. One more

module _ (e : ℕ) where
  pub bump_negative : half 8 ≤ e → 0 ≡ bumped e
  unfolding bumped
  bump_negative h = rw (le-leb (half 8) e h)

  module _ (h : e < half 8) where
    pub bump_more : e + 1 < half 8 → e + 1 ≡ bumped e
    unfolding bumped
    bump_more l = rw (lt-leb (half 8) e h, lt-ltb (e + 1) (half 8) l)

    pub bump_highest : half 8 ≤ e + 1 → e ≡ bumped e
    unfolding bumped
    bump_highest l = rw (lt-leb (half 8) e h, le-ltb (e + 1) (half 8) l)

-- 2. After a record

module _ (s : Bytes) (i : IsLogged s) where
  pub epoch_width : kind_in s ≡ 13 → length (value 1 (run_in s)) ≡ 8
  unfolding rows_of shape_of kind_number
  epoch_width is = value_of s i FeaturesEpoch is 1 refl refl

  pub kraft_width : kind_in s ≡ 10 → length (value 1 (run_in s)) ≡ 2
  unfolding rows_of shape_of kind_number
  kraft_width is = value_of s i KRaftVersion is 1 refl refl

  -- what is after, by the first byte and the record's own fields
  epoch_by : (e : ℕ) → cond (eqb (kind_in s) 11) (bumped e) (cond (eqb (kind_in s) 13) (number (value 1 (run_in s))) e) ≡ epoch_after (logged_in s) e
  unfolding epoch_after
  epoch_by e = rw (kind_in_lem s i, run_in_lem s i)

  kraft_by : (v : ℕ) → cond (eqb (kind_in s) 10) (number (value 1 (run_in s))) v ≡ kraft_after (logged_in s) v
  unfolding kraft_after
  kraft_by v = rw (kind_in_lem s i, run_in_lem s i)

  pub epoch-bumped : (e : ℕ) {r : ℕ} → kind_in s ≡ 11 → r ≡ bumped e → r ≡ epoch_after (logged_in s) e
  epoch-bumped e is q = q ∙ rw (eq-eqb (kind_in s) 11 is) at (epoch_by e)

  pub epoch-set : (e : ℕ) {r : ℕ} → kind_in s ≡ 13 → r ≡ number (value 1 (run_in s)) → r ≡ epoch_after (logged_in s) e
  epoch-set e is q = q ∙ rw (ne_eqb (kind_in s) 11 (λ p. omega arith), eq-eqb (kind_in s) 13 is) at (epoch_by e)

  pub epoch-kept : (e : ℕ) → eqb (kind_in s) 11 ≡ false → eqb (kind_in s) 13 ≡ false → e ≡ epoch_after (logged_in s) e
  epoch-kept e a b = rw (a, b) at (epoch_by e)

  pub kraft-set : (v : ℕ) {r : ℕ} → kind_in s ≡ 10 → r ≡ number (value 1 (run_in s)) → r ≡ kraft_after (logged_in s) v
  kraft-set v is q = q ∙ rw (eq-eqb (kind_in s) 10 is) at (kraft_by v)

  pub kraft-kept : (v : ℕ) → eqb (kind_in s) 10 ≡ false → v ≡ kraft_after (logged_in s) v
  kraft-kept v a = rw a at (kraft_by v)
