-- `wire::get` meets its contract. The invariant: what v and the bytes still to come spell is what all spell.
use Prim.Native.Nat.{◌<◌}
use mathlib.Core.Path.{◌≡◌}
use lib.ListN.{drop}
use Rattle.model.specs.Number.{spelt, number, span}
use Rattle.wire.proofs.get.Given as goal

abbrev pub invariant-loop-x : goal.invariant-loop-x
invariant-loop-x l = (l.v < span l.x-index) × (spelt l.v (drop l.x-index l.part) ≡ number l.part)
