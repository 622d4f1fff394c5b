-- `test_hex_lines::next_line` stays in its buffers, and ends. The invariant: the line's bytes are in the buffer, and no buffer changes its length.
use Prim.Native.Nat.{◌≤◌}
use mathlib.Core.Path.{◌≡◌}
use lib.ListN.{length}
use Rattle.test_hex_lines.proofs.next_line.Given as goal

abbrev pub invariant-loop-turns : goal.invariant-loop-turns
invariant-loop-turns l = (length l.bytes ≡ length l.initial.bytes) × (length l.chunk ≡ length l.initial.chunk) × (l.line.len ≤ length l.bytes)

abbrev pub decreases-loop-turns : goal.decreases-loop-turns
decreases-loop-turns l = l.turns
