-- `wire::shift_up` meets its contract. The invariant: the bytes from i on are moved; those still to move stand where they stood.
use mathlib.Core.Path.{◌≡◌}
use Rattle.wire.proofs.Laid.{laid, part}
use Rattle.wire.proofs.shift_up.Given as goal

abbrev pub invariant-loop-i : goal.invariant-loop-i
invariant-loop-i l = l.w ≡ laid l.initial.w l.to (part l.initial.w l.from l.n) l.n l.i
