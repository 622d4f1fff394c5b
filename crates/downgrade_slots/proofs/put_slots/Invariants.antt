-- `downgrade_slots::put_slots` meets its contract. The invariant: what is written, and the records to come, are all.
use Prim.Native.Nat.{◌-◌}
use Rattle.downgrade_slots.proofs.Walks.{Wrote}
use Rattle.downgrade_slots.proofs.put_slots.Given as goal

abbrev pub invariant-loop-i : goal.invariant-loop-i
invariant-loop-i l = Wrote l.name l.number l.nodes l.dirs l.initial.out l.out l.at l.count l.i l.to

abbrev pub decreases-loop-i : goal.decreases-loop-i
decreases-loop-i l = l.count - l.i
