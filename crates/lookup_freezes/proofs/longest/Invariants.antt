-- `lookup_freezes::longest` meets its contract: the prefixes are sought in the order of the entries.
use Prim.Native.Nat.{◌-◌}
use lib.ListN.{length}
use Rattle.lookup_freezes.proofs.Climbs.{Climb}
use Rattle.lookup_freezes.proofs.longest.Given as goal

abbrev pub invariant-loop-best : goal.invariant-loop-best
invariant-loop-best l = Climb l.s l.name l.n l.from l.best

abbrev pub decreases-loop-best : goal.decreases-loop-best
decreases-loop-best l = length l.name - l.n
