-- `tool_source::fill` stays in its window, and ends: each read that goes on brings bytes.
use Rattle.std.proofs.Common.{◌≡◌, ◌-◌, ◌≤◌, length}
use Rattle.tool_source.proofs.fill.Given as goal

abbrev pub invariant-loop-end : goal.invariant-loop-end
invariant-loop-end g l = (length l.window ≡ length l.initial.window) × (l.end ≤ length l.window)

abbrev pub decreases-loop-end : goal.decreases-loop-end
decreases-loop-end g l = 65538 - l.end
