-- `restore_settled::tally_of` meets its contract. The invariant: what has been counted and what the rest has is what all have, and so for the factor.
use Prim.Native.Nat.{◌-◌}
use lib.ListN.{length}
use Rattle.image_counts.proofs.Tallies.{Passed}
use Rattle.restore_settled.proofs.Tallies.{Folded}
use Rattle.restore_settled.proofs.tally_of.Given as goal

abbrev pub invariant-loop-start : goal.invariant-loop-start
invariant-loop-start l = Passed l.s l.name l.c.at l.count × Folded l.s l.name l.given l.c.at l.factor

abbrev pub decreases-loop-start : goal.decreases-loop-start
decreases-loop-start l = length l.s - l.c.at
