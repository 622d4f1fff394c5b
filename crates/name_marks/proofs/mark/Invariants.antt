-- `name_marks::mark` meets its contract. The invariant: the names before the place have their marks, and none from it on is below the scope.
use Prim.Native.Nat.{◌-◌}
use lib.ListN.{length}
use Rattle.name_marks.proofs.Marking.{Marking}
use Rattle.name_marks.proofs.mark.Given as goal

abbrev pub invariant-loop-at : goal.invariant-loop-at
invariant-loop-at l = Marking l.list l.scope l.literal l.index l.initial.out l.out l.at l.n

abbrev pub decreases-loop-at : goal.decreases-loop-at
decreases-loop-at l = length l.list - l.at
