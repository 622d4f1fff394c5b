-- `tool_course::run::run_in` ends, and stays in its buffers.
use Rattle.std.proofs.Common.{◌≡◌, ◌-◌, ◌≤◌, length}
use Rattle.tool_course.proofs.run.run_in.Given as goal

abbrev pub invariant-loop-stdout : goal.invariant-loop-stdout
invariant-loop-stdout g l = (length l.window ≡ length l.initial.window) × (length l.plain ≡ length l.initial.plain) × (length l.other ≡ length l.initial.other) × (l.source.at ≤ l.source.end) × (l.source.end ≤ length l.window)

abbrev pub decreases-loop-stdout : goal.decreases-loop-stdout
decreases-loop-stdout g l = 9223372036854775807 - l.course.records
