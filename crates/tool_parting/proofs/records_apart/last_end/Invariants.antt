-- `tool_parting::records_apart::last_end` ends, and stays in its run.
use Prim.Native.Nat.{◌-◌, ◌≤◌}
use lib.ListN.{length}
use Rattle.tool_parting.proofs.records_apart.last_end.Given as goal

abbrev pub invariant-loop-tag : goal.invariant-loop-tag
invariant-loop-tag l = (l.c.at ≤ l.c.to) × (l.c.to ≤ length l.run) × (l.found ≤ length l.run)

abbrev pub decreases-loop-tag : goal.decreases-loop-tag
decreases-loop-tag l = l.c.to - l.c.at
