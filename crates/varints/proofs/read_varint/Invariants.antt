-- `varints::read_varint` meets its contract. The invariant: what is left, with the number and the weight so far, reads as all.
use Rattle.varints.proofs.Turns.{Left}
use Rattle.varints.proofs.read_varint.Given as goal

abbrev pub invariant-loop-more : goal.invariant-loop-more
invariant-loop-more l = Left l.s l.at l.to l.n l.weight l.more

abbrev pub decreases-loop-more : goal.decreases-loop-more
decreases-loop-more l = l.more
