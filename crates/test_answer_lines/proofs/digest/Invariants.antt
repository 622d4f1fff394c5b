-- `test_answer_lines::digest` meets its contract. The invariant: what n and the bytes still to come give is what all give.
use Prim.Native.Nat.{◌-◌, ◌≤◌, ◌<◌}
use mathlib.Core.Path.{◌≡◌}
use lib.ListN.{length, drop}
use Rattle.test_answer_lines.specs.Digest.{digest_from, digest_of}
use Rattle.test_answer_lines.proofs.digest.Given as goal

abbrev pub invariant-loop-i : goal.invariant-loop-i
invariant-loop-i l = (l.i ≤ length l.bytes) × (l.n < 4294967291) × (digest_from l.n (drop l.i l.bytes) ≡ digest_of l.bytes)

abbrev pub decreases-loop-i : goal.decreases-loop-i
decreases-loop-i l = length l.bytes - l.i
