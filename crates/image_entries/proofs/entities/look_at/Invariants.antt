-- `entities::look_at` meets its contract. The invariant: the entities still to come are in order after the last one exactly if all are.
use Prim.Native.Nat.{◌-◌}
use Rattle.image_entries.proofs.InOrder.{Ordered}
use Rattle.image_entries.proofs.entities.look_at.Given as goal

abbrev pub invariant-loop-tag : goal.invariant-loop-tag
invariant-loop-tag l = Ordered l.e l.c l.last

abbrev pub decreases-loop-tag : goal.decreases-loop-tag
decreases-loop-tag l = l.c.to - l.c.at
