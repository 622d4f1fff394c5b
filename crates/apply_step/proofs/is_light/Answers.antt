-- `apply_step::is_light` meets its contract.
use mathlib.Core.Path.{sym, ap}
use native.Mathlib.Omega.{arith}
use lib.Dec.{leb}
use lib.Seq.{length-take-le}
use Rattle.keys.proofs.Keys.{known_bytes}
use Rattle.apply_step.proofs.Light.{weight_is}
use Rattle.apply_step.proofs.is_light.Goals as goal

pub slice_bounds-weight_of-end : goal.slice_bounds-weight_of-end
slice_bounds-weight_of-end c =
    let good = c.requires.0 in
    sym (length-take-le _ _ (omega (arith, good.order, good.fits)))

pub weight_of-requires : goal.weight_of-requires
weight_of-requires c =
    let good = c.requires.0 in
    (good.reals, omega (arith, good.fits, c.requires.3))

pub returns : goal.returns
returns c =
    let are = known_bytes c.args.w.now (λ i. omega (arith, c.type_inv.w i)) in
    λ f. ap (λ n. leb n c.args.capacity) (weight_is _ _ are c.requires.0 f c.requires.1 _ c.weight_of.ensures)
