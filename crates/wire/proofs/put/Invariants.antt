-- `wire::put` meets its contract. The invariant: the bytes from i on stand, and the first i are those of what is left of the number.
use mathlib.Core.Path.{◌≡◌}
use lib.ListN.{take}
use Rattle.model.specs.Number.{bytes}
use Rattle.wire.proofs.Laid.{laid}
use Rattle.wire.proofs.put.Given as goal

abbrev pub invariant-loop-i : goal.invariant-loop-i
invariant-loop-i l = (l.s ≡ laid l.initial.s l.at (bytes l.width l.n) l.width l.i) × (bytes l.i l.rest ≡ take l.i (bytes l.width l.n))
