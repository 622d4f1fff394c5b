-- A freeze's scope is empty where the part of it is.
use mathlib.Core.Path.{◌≡◌}
use Prim.Native.Nat.{ℕ}
use lib.Dec.{eqb}
use Rattle.model.specs.Number.{Bytes}
use Rattle.keys.specs.Keys.{run_in}
use Rattle.keys.proofs.Fields.{PartOf, is_empty_lem}
use Rattle.judge.specs.Judge.{empty_scope}

pub no_scope : (e : Bytes) (start end : ℕ) → PartOf e 1 start end → eqb start end ≡ empty_scope (run_in e)
unfolding empty_scope
no_scope e start end h = is_empty_lem e 1 start end h
