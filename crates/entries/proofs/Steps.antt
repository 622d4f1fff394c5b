-- What stands at a place, test by test.
use mathlib.Core.Path.{◌≡◌}
use Prim.Native.Nat.{ℕ, ◌+◌, ◌-◌, ◌≤◌, ◌<◌}
use borrow.Author.Tests.{le-leb, lt-leb, lt-ltb, le-ltb}
use lib.ListN.{length}
use lib.Seq.{slice}
use Rattle.model.specs.Number.{Bytes, number}
use Rattle.entries.specs.Entries.{step_at}
use Rattle.entries.specs.declared.Step.TheVariants.{Entry, Torn, End}

module _ (s : Bytes) (at : ℕ) where
  pub step_end : length s ≤ at → End ≡ step_at s at
  unfolding step_at
  step_end h = rw (le-leb _ _ h)

  module _ (inside : at < length s) where
    pub step_cut : length s - at < 3 → Torn ≡ step_at s at
    unfolding step_at
    step_cut h = rw (lt-leb _ _ inside, lt-ltb _ _ h)

    module _ (headed : 3 ≤ length s - at) (n : ℕ) (e : n ≡ number (slice (at + 1) (at + 1 + 2) s)) where
      pub step_past : length s - at < 3 + n → Torn ≡ step_at s at
      unfolding step_at
      step_past h = rw (lt-leb _ _ inside, le-ltb _ _ headed, ← e, lt-ltb _ _ h)

      pub step_entry : 3 + n ≤ length s - at → Entry at (at + (3 + n)) (record { at = at + (3 + n) }) ≡ step_at s at
      unfolding step_at
      step_entry h = rw (lt-leb _ _ inside, le-ltb _ _ headed, ← e, le-ltb _ _ h)
