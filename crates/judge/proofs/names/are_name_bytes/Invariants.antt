-- `names::are_name_bytes` meets its contract. The invariant: all are name bytes exactly where those from i on are.
use Prim.Native.Nat.{◌-◌, ◌≤◌}
use mathlib.Core.Path.{◌≡◌}
use lib.ListN.{length, drop}
use Rattle.model.specs.Choice.{every}
use Rattle.model.specs.Validate.{is_name_byte}
use Rattle.judge.proofs.names.are_name_bytes.Given as goal

abbrev pub invariant-loop-i : goal.invariant-loop-i
invariant-loop-i l = (l.i ≤ length l.s) × (every is_name_byte (drop l.i l.s) ≡ every is_name_byte l.s)

abbrev pub decreases-loop-i : goal.decreases-loop-i
decreases-loop-i l = length l.s - l.i
