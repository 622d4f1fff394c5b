-- `name_marks::advance` meets its contract. The invariant: all names before the place are below the scope.
use Prim.Native.Nat.{◌-◌}
use lib.ListN.{length}
use Rattle.name_marks.specs.Marks.{BehindAt}
use Rattle.name_marks.proofs.advance.Given as goal

abbrev pub invariant-loop-at : goal.invariant-loop-at
invariant-loop-at l = BehindAt l.list l.at l.n l.scope

abbrev pub decreases-loop-at : goal.decreases-loop-at
decreases-loop-at l = length l.list - l.at
