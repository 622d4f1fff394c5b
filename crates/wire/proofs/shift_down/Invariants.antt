-- `wire::shift_down` meets its contract. The invariant: the first i bytes are moved; those still to move stand where they stood.
use mathlib.Core.Path.{◌≡◌}
use lib.ListN.{drop}
use lib.Seq.{paste}
use Rattle.wire.proofs.shift_down.Given as goal

abbrev pub invariant-loop-i : goal.invariant-loop-i
invariant-loop-i l = l.w ≡ paste l.initial.w l.to (drop l.from l.initial.w) l.i
