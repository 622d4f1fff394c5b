-- `tool_parting::records_apart::say_fields` ends.
use Prim.Native.Nat.{◌-◌, ◌≤◌}
use Rattle.tool_parting.proofs.records_apart.say_fields.Given as goal

abbrev pub invariant-loop-tag : goal.invariant-loop-tag
invariant-loop-tag l = l.tag ≤ 13

abbrev pub decreases-loop-tag : goal.decreases-loop-tag
decreases-loop-tag l = 13 - l.tag
