-- `records::body_length` meets its contract. The invariant: what is counted so far and what the lengths still to come make is the whole.
use Prim.Native.Nat.{◌+◌, ◌-◌, ◌≤◌}
use mathlib.Core.Path.{◌≡◌}
use lib.ListN.{length, drop}
use Rattle.records.specs.Answers.{body_length}
use Rattle.records.proofs.body_length.Given as goal

abbrev pub invariant-loop-i : goal.invariant-loop-i
invariant-loop-i l = (l.i ≤ length l.lengths) × (l.n + body_length (drop l.i l.lengths) ≡ body_length l.lengths)

abbrev pub decreases-loop-i : goal.decreases-loop-i
decreases-loop-i l = length l.lengths - l.i
