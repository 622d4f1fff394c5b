-- `short_histories::record_at` meets its contract. The invariant: the record that is left to find is the one at the position.
use Rattle.short_histories.proofs.Places.{Stands}
use Rattle.short_histories.proofs.record_at.Given as goal

abbrev pub invariant-loop-left : goal.invariant-loop-left
invariant-loop-left l = Stands l.s l.position l.at l.left

abbrev pub decreases-loop-left : goal.decreases-loop-left
decreases-loop-left l = l.left
