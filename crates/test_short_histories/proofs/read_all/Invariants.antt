-- `test_short_histories::read_all` stays in its buffers, and ends. The invariant: no buffer changes its length.
use mathlib.Core.Path.{◌≡◌}
use lib.ListN.{length}
use Rattle.test_short_histories.proofs.read_all.Given as goal

abbrev pub invariant-loop-turns : goal.invariant-loop-turns
invariant-loop-turns l = (length l.bytes ≡ length l.initial.bytes) × (length l.work ≡ length l.initial.work) × (length l.chunk ≡ length l.initial.chunk)

abbrev pub decreases-loop-turns : goal.decreases-loop-turns
decreases-loop-turns l = l.turns
