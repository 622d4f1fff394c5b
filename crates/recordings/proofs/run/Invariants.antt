-- `recordings::run` meets its contract. The invariant: the parting of both runs is the parting of what is left of them.
use Prim.Native.Nat.{◌-◌}
use mathlib.Core.Path.{◌≡◌}
use lib.ListN.{length}
use Rattle.recordings.specs.Turns.{Running}
use Rattle.recordings.proofs.run.Given as goal

abbrev pub invariant-loop-n : goal.invariant-loop-n
invariant-loop-n l =
    Running (length l.initial.first) l.one l.other l.k l.at l.to l.first l.second l.equal × (length l.spare ≡ length l.initial.spare)

abbrev pub decreases-loop-n : goal.decreases-loop-n
decreases-loop-n l = length l.one - l.at
