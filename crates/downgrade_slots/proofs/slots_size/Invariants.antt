-- `downgrade_slots::slots_size` meets its contract. The invariant: what is counted, and the length of the records to come, are the length of all.
use Prim.Native.Nat.{◌-◌}
use Rattle.downgrade_slots.proofs.Walks.{Counted}
use Rattle.downgrade_slots.proofs.slots_size.Given as goal

abbrev pub invariant-loop-i : goal.invariant-loop-i
invariant-loop-i l = Counted l.dirs l.count l.size l.i l.n

abbrev pub decreases-loop-i : goal.decreases-loop-i
decreases-loop-i l = l.count - l.i
