-- The fields of three lists, from one field to the next.
use mathlib.Core.Path.{◌≡◌}
use mathlib.Core.List.{List}
use Prim.Native.Nat.{ℕ, ◌+◌, ◌-◌, ◌≤◌, ◌<◌}
use native.Mathlib.Omega.{arith}
use borrow.Author.Tests.{le-leb, lt-leb}
use lib.ListN.{length, get_or, drop, length-drop, drop_of_length-le}
use lib.Seq.{slice, drop-drop}
use Rattle.model.specs.Number.{Bytes}
use Rattle.model.specs.Run.{Run, done, torn, item}
use Rattle.model.specs.Record.{gathered}
use Rattle.wire.proofs.Rest.{drop-step}
use Rattle.shape_faults.proofs.Parts.{take-drop}

-- the fields from a place on in each list
abbrev pub gathered_from : Bytes → List ℕ → Bytes → ℕ → ℕ → Run
gathered_from tags lengths values i from = gathered (drop i tags) (drop i lengths) (drop from values)

module _ (tags : Bytes) (lengths : List ℕ) (values : Bytes) (i from : ℕ) where
  module _ (more : i < length tags) where
    pub no_length : length lengths ≤ i → gathered_from tags lengths values i from ≡ torn
    unfolding gathered
    no_length h = rw (drop-step tags i more, drop_of_length-le lengths h)

    module _ (given : i < length lengths) (n : ℕ) (en : n ≡ get_or lengths i 0) where
      pub value_cut : length values - from < n → gathered_from tags lengths values i from ≡ torn
      unfolding gathered
      value_cut h =
          let k : length (drop from values) < n = rw length-drop h in
          rw (drop-step tags i more, drop-step lengths i given, ← en, lt-leb _ _ k)

      pub next_field : (t : ℕ) → t ≡ get_or tags i 0 → from ≤ length values → n ≤ length values - from
          → gathered_from tags lengths values i from ≡ item t (slice from (from + n) values) (gathered_from tags lengths values (i + 1) (from + n))
      unfolding gathered
      next_field t et h k =
          let l : n ≤ length (drop from values) = rw length-drop k in
          rw (drop-step tags i more, drop-step lengths i given, ← et, ← en, le-leb _ _ l, drop-drop, take-drop values from n (omega arith))

  module _ (none_left : length tags ≤ i) where
    pub lengths-left : i < length lengths → gathered_from tags lengths values i from ≡ torn
    unfolding gathered
    lengths-left h = rw (drop_of_length-le tags none_left, drop-step lengths i h)

    pub values-left : length lengths ≤ i → from < length values → gathered_from tags lengths values i from ≡ torn
    unfolding gathered
    values-left h k = rw (drop_of_length-le tags none_left, drop_of_length-le lengths h, drop-step values from k)

    pub nothing_left : length lengths ≤ i → length values ≤ from → gathered_from tags lengths values i from ≡ done
    unfolding gathered
    nothing_left h k = rw (drop_of_length-le tags none_left, drop_of_length-le lengths h, drop_of_length-le values k)
