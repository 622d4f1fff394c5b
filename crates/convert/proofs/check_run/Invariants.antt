-- `convert::check_run` meets its contract. The invariant: what is said of the records from the place on is what is said of all.
use Prim.Native.Nat.{◌-◌}
use lib.ListN.{length}
use Rattle.records.specs.Answers.{source_of}
use Rattle.convert.proofs.Checking.{Reached}
use Rattle.convert.proofs.check_run.Given as goal

abbrev pub invariant-loop-at : goal.invariant-loop-at
invariant-loop-at l = Reached (source_of l.source) l.run l.start l.at

abbrev pub decreases-loop-at : goal.decreases-loop-at
decreases-loop-at l = length l.run - l.at
