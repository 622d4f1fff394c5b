-- `proposals::next_value` meets its contract. The invariant: no value of the tag has been passed.
use Prim.Native.Nat.{◌-◌}
use Rattle.judge.proofs.Approvals.{Passed}
use Rattle.judge.proofs.proposals.next_value.Given as goal

abbrev pub invariant-loop-t : goal.invariant-loop-t
invariant-loop-t l = Passed l.s l.tag l.initial.c l.c

abbrev pub decreases-loop-t : goal.decreases-loop-t
decreases-loop-t l = l.c.to - l.c.at
