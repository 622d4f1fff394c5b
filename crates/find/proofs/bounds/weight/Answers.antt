-- `find::weight` meets its contract.
use Rattle.model.specs.Number.{AreBytes}
use native.Mathlib.Omega.{arith}
use Rattle.keys.proofs.Keys.{known_bytes}
use Rattle.find.proofs.Ends.{used_low}
use Rattle.find.proofs.Lent.{lent-entries}
use Rattle.find.proofs.Weighs.{weighs}
use Rattle.find.proofs.bounds.weight.Goals as goal

pub overflow_sub-used : goal.overflow_sub-used
overflow_sub-used c =
    let bytes_in : AreBytes c.args.image.now = known_bytes c.args.image.now (λ i. omega (arith, c.type_inv.image i)) in
    used_low _ bytes_in c.requires c.used_in-used.ensures.0

pub weight_of-requires : goal.weight_of-requires
weight_of-requires c =
    (lent-entries c.args.image.now c.reals_end-end.ensures, omega (arith, c.used_in-used.ensures.1))

pub returns : goal.returns
returns c =
    let bytes_in : AreBytes c.args.image.now = known_bytes c.args.image.now (λ i. omega (arith, c.type_inv.image i)) in
    weighs _ bytes_in c.requires _ c.reals_end-end.ensures _ c.used_in-used.ensures.0 _ c.weight_of.ensures
