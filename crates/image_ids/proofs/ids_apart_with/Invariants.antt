-- `image_ids::ids_apart_with` meets its contract. The invariant: the named topics so far have ids apart, and each of their ids is marked.
use Prim.Native.Nat.{◌-◌}
use lib.ListN.{length}
use Rattle.image_ids.proofs.Marks.{Walked}
use Rattle.image_ids.proofs.ids_apart_with.Given as goal

abbrev pub invariant-loop-start : goal.invariant-loop-start
invariant-loop-start l = Walked l.s l.seen l.c.at

abbrev pub decreases-loop-start : goal.decreases-loop-start
decreases-loop-start l = length l.s - l.c.at
