-- `proposals::extends` meets its contract. The invariant: the approvals still to come extend each other exactly if all do.
use Prim.Native.Nat.{◌-◌}
use Rattle.judge.proofs.Approvals.{Extending}
use Rattle.judge.proofs.proposals.extends.Given as goal

abbrev pub invariant-loop-start : goal.invariant-loop-start
invariant-loop-start l = Extending l.old l.new l.c l.d

abbrev pub decreases-loop-start : goal.decreases-loop-start
decreases-loop-start l = l.c.to - l.c.at
