-- `entries::remove_topic` meets its contract. The invariant: what has been moved down and what passes of the rest is what passes of all.
use Prim.Native.Nat.{◌-◌}
use Rattle.model.specs.Move.{apart_from}
use Rattle.entries.proofs.Keeps.{Kept}
use Rattle.entries.proofs.topics.remove_topic.Given as goal

abbrev pub invariant-loop-start : goal.invariant-loop-start
invariant-loop-start l = Kept (apart_from l.name) l.initial.w l.w l.from l.to l.c.at l.top

abbrev pub decreases-loop-start : goal.decreases-loop-start
decreases-loop-start l = l.to - l.c.at
