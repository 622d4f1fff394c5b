-- `apply_offsets::add` meets its contract: one of the numbers is counted from zero, and the other shows whether the sum stays.
use Prim.Native.Nat.{◌+◌}
use native.Mathlib.Omega.{arith}
use Rattle.apply_offsets.proofs.Sums.{leaves_below, leaves_above, stays}
use Rattle.apply_offsets.proofs.add.Goals as goal

pub returns-then-b-short : goal.returns-then-b-short
returns-then-b-short c = let a = c.args in (omega arith, leaves_below (a.a + a.b) (omega arith))

pub returns-then-a-lt-ZERO : goal.returns-then-a-lt-ZERO
returns-then-a-lt-ZERO c = let a = c.args in (omega arith, stays (a.a + a.b) (omega arith) (omega arith))

pub returns-then-left-b : goal.returns-then-left-b
returns-then-left-b c = let a = c.args in (omega arith, leaves_above (a.a + a.b) (omega arith))

pub returns : goal.returns
returns c = let a = c.args in (omega arith, stays (a.a + a.b) (omega arith) (omega arith))
