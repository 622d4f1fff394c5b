-- `names::check` meets its contract. The invariant: the names passed, and what the bytes left come to, are what the list comes to.
use Prim.Native.Nat.{◌-◌}
use lib.ListN.{length}
use Rattle.names.proofs.Walks.{Walked}
use Rattle.names.proofs.check.Given as goal

abbrev pub invariant-loop-at : goal.invariant-loop-at
invariant-loop-at l = Walked l.ordered l.most l.list l.n l.start l.at

abbrev pub decreases-loop-at : goal.decreases-loop-at
decreases-loop-at l = length l.list - l.at
