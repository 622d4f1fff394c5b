-- A loop from the front: what is left from a place on decides what all decide.
use mathlib.Core.Path.{◌≡◌}
use mathlib.Core.Bool.{Bool, true, false}
use mathlib.Core.List.{◌∷◌}
use Prim.Native.Nat.{ℕ, ◌+◌, ◌≤◌, ◌<◌}
use native.Mathlib.Numerals.{add-one}
use lib.ListN.{length, get_or, drop, drop_of_length-le}
use lib.Seq.{drop-cons}
use Rattle.model.specs.Choice.{every}
use Rattle.model.specs.Number.{Bytes}

pub drop-step : (s : Bytes) (i : ℕ) → i < length s → drop i s ≡ get_or s i 0 ∷ drop (i + 1) s
drop-step s i h = rw add-one (drop-cons s i 0 h)

-- a test of every byte
module _ (test : ℕ → Bool) (s : Bytes) (i : ℕ) where
  pub every_failed : i < length s → test (get_or s i 0) ≡ false → every test (drop i s) ≡ false
  every_failed h e = rw (drop-step s i h, e)

  pub every-passed : i < length s → test (get_or s i 0) ≡ true → every test (drop i s) ≡ every test (drop (i + 1) s)
  every-passed h e = rw (drop-step s i h, e)

  pub every_ended : length s ≤ i → every test (drop i s) ≡ true
  every_ended h = rw (drop_of_length-le s h)
