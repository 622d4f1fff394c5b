-- `views::is_visible` meets its contract. The invariant: whether the name is visible is settled by the prefixes that are left.
use Prim.Native.Nat.{◌-◌}
use lib.ListN.{length}
use Rattle.views.proofs.Prefixes.{Left}
use Rattle.views.proofs.is_visible.Given as goal

abbrev pub invariant-loop-at : goal.invariant-loop-at
invariant-loop-at l = Left l.list l.name l.at

abbrev pub decreases-loop-at : goal.decreases-loop-at
decreases-loop-at l = length l.list - l.at
