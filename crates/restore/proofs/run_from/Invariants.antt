-- `restore::run_from` meets its contract. The invariant: the records before the place are applied, and the arrays are as long as they were.
use Prim.Native.Nat.{◌-◌}
use mathlib.Core.Path.{◌≡◌}
use lib.ListN.{length}
use Rattle.restore.specs.Restore.{Reached}
use Rattle.restore.proofs.run_from.Given as goal

abbrev pub invariant-loop-at : goal.invariant-loop-at
invariant-loop-at l =
    Reached l.capacity l.input l.at l.w l.state × (length l.w ≡ length l.initial.w) × (length l.a ≡ length l.initial.a) × (length l.b ≡ length l.initial.b)

abbrev pub decreases-loop-at : goal.decreases-loop-at
decreases-loop-at l = length l.input - l.at
