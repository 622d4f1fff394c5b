-- `restore::restore` meets its contract: the image was copied, or the records are restored one by one.
use mathlib.Core.Path.{refl}
use lib.ListN.{length}
use native.Mathlib.Omega.{arith}
use Rattle.laws_image.specs.Tests.{capacity-least}
use Rattle.restore.proofs.Restoring.{no_capacity, capacity-kept, copied, each}
use Rattle.restore.proofs.restore.Goals as goal

pub returns-then-not-is_capacity : goal.returns-then-not-is_capacity
returns-then-not-is_capacity c =
    let the_whole = no_capacity c.args.image.now c.args.input.now c.is_capacity.ensures c.if-not-is_capacity.true-raw in record { result_value = the_whole.0; image_after = the_whole.1 }

pub rebuild-requires : goal.rebuild-requires
rebuild-requires c =
    omega (arith, capacity-least (length c.args.image.now) (capacity-kept c.args.image.now c.args.input.now c.is_capacity.ensures c.if-not-is_capacity.false-raw c.args.image.now refl))

pub returns-then-rebuild : goal.returns-then-rebuild
returns-then-rebuild c =
    let the_whole = copied c.args.image.now c.args.input.now c.is_capacity.ensures c.if-not-is_capacity.false-raw _ c.rebuild.auto.image
    c.rebuild.ensures c.if-rebuild.true in record { result_value = the_whole.0; image_after = the_whole.1 }

pub restore_each-requires : goal.restore_each-requires
restore_each-requires c = (
  capacity-kept c.args.image.now c.args.input.now c.is_capacity.ensures c.if-not-is_capacity.false-raw c.rebuild.new.image c.rebuild.auto.image,
  omega (arith, c.rebuild.auto.w),
)

pub returns : goal.returns
returns c =
    let the_whole = each c.args.image.now c.args.input.now c.is_capacity.ensures c.if-not-is_capacity.false-raw _ c.rebuild.auto.image (c.restore_each.ensures.result_value, c.restore_each.ensures.image_after) in record { result_value = the_whole.0; image_after = the_whole.1 }
