-- `log_freeze::longest` meets its contract. The invariant: the slots from the i-th on hold nothing.
use mathlib.Core.Path.{◌≡◌}
use Prim.Native.Nat.{◌+◌, ◌≤◌}
use Rattle.log_freeze.specs.Slots.{longest_slot}
use Rattle.log_freeze.proofs.longest.Given as goal

abbrev pub invariant-loop-i : goal.invariant-loop-i
invariant-loop-i l = (l.i ≤ l.n + 1) × (longest_slot l.slots (l.n + 1) ≡ longest_slot l.slots l.i)

abbrev pub decreases-loop-i : goal.decreases-loop-i
decreases-loop-i l = l.i
