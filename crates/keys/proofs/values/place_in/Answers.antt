-- `values::place_in` meets its contract: half the width more, or half the width less.
use Prim.Native.Nat.{◌<◌}
use native.Mathlib.Omega.{arith}
use Rattle.model.specs.Number.{span}
use Rattle.model.specs.Run.{value}
use Rattle.keys.specs.Keys.{run_in}
use Rattle.keys.proofs.Keys.{known_bytes, number-below}
use Rattle.keys.proofs.Fields.{place_fits, place_up, place_down}
use Rattle.keys.proofs.values.place_in.Goals as goal

pub overflow_add-result : goal.overflow_add-result
overflow_add-result c = record { fits = place_fits _ _ _ c.half_of-half.ensures c.requires.1 c.requires.2 c.if-n-half.true }

pub returns-then-n-half : goal.returns-then-n-half
returns-then-n-half c =
    let a = c.args in
    place_up _ _ _ c.half_of-half.ensures (value a.tag (run_in a.e.now)) c.number_at-n.ensures c.if-n-half.true

pub returns : goal.returns
returns c =
    let e = c.args.e.now in
    let n = c.number_at-n.ensures in
    let are_bytes = known_bytes e (λ i. omega (arith, c.type_inv.e i)) in
    let below : c.number_at-n.result < span c.args.width = rw n (number-below e are_bytes c.args.tag c.args.width c.requires.3) in
    place_down _ _ _ c.half_of-half.ensures (value c.args.tag (run_in e)) (n, below) c.if-n-half.false
