-- `wire::is_clear` meets its contract. The invariant: all are 0 exactly where those still to come are.
use Prim.Native.Nat.{ℕ}
use mathlib.Core.Path.{◌≡◌}
use lib.ListN.{drop}
use lib.Dec.{eqb}
use Rattle.model.specs.Choice.{every}
use Rattle.wire.proofs.is_clear.Given as goal

abbrev pub invariant-loop-x : goal.invariant-loop-x
invariant-loop-x l = every (λ (x : ℕ). eqb x 0) (drop l.x-index l.s) ≡ every (λ (x : ℕ). eqb x 0) l.s
