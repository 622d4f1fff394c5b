-- `tool_subjects::entities::say_entities` ends, and stays in its run.
use Prim.Native.Nat.{◌-◌, ◌≤◌}
use lib.ListN.{length}
use Rattle.tool_subjects.proofs.entities.say_entities.Given as goal

abbrev pub invariant-loop-tag : goal.invariant-loop-tag
invariant-loop-tag l = (l.c.at ≤ l.c.to) × (l.c.to ≤ length l.run)

abbrev pub decreases-loop-tag : goal.decreases-loop-tag
decreases-loop-tag l = l.c.to - l.c.at
