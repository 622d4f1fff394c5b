-- `test_views::read_all` stays in its buffers, and ends. The invariant: no buffer changes its length.
use Prim.Native.Nat.{◌-◌}
use mathlib.Core.Path.{◌≡◌}
use lib.ListN.{length}
use Rattle.test_views.proofs.read_all.Given as goal

abbrev pub invariant-loop-place : goal.invariant-loop-place
invariant-loop-place l = (length l.bytes ≡ length l.initial.bytes) × (length l.image ≡ length l.initial.image) × (length l.out ≡ length l.initial.out) × (length l.chunk ≡ length l.initial.chunk)

abbrev pub decreases-loop-place : goal.decreases-loop-place
decreases-loop-place l = 18446744073709551615 - l.place
