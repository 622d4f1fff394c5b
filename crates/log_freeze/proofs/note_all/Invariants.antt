-- `log_freeze::note_all` meets its contract. The invariant: the records before the place are right and noted.
use mathlib.Core.Path.{◌≡◌}
use Prim.Native.Nat.{◌-◌}
use lib.ListN.{length}
use Rattle.log_freeze.specs.Slots.{slot_count, Reached}
use Rattle.log_freeze.proofs.note_all.Given as goal

abbrev pub invariant-loop-at : goal.invariant-loop-at
invariant-loop-at l = Reached l.run l.name l.at l.slots × (length l.slots ≡ slot_count)

abbrev pub decreases-loop-at : goal.decreases-loop-at
decreases-loop-at l = length l.run - l.at
