-- `downgrade::downgrade` meets its contract.
use Rattle.downgrade.proofs.Emits.{no_image, image_is, said}
use Rattle.downgrade.proofs.downgrade.Goals as goal

pub returns-then-not-is_image : goal.returns-then-not-is_image
returns-then-not-is_image c =
    let the_whole = no_image _ c.args.level c.args.out.now c.is_image.ensures c.if-not-is_image.true-raw in record { result_value = the_whole.0; out_after = the_whole.1 }

pub emit_listed-requires : goal.emit_listed-requires
emit_listed-requires c =
    image_is _ c.args.level c.args.out.now c.is_image.ensures c.if-not-is_image.false-raw

pub returns : goal.returns
returns c =
    let the_whole = said _ c.args.level c.args.out.now c.is_image.ensures c.if-not-is_image.false-raw (c.emit_listed.ensures.result_value, c.emit_listed.ensures.out_after) in record { result_value = the_whole.0; out_after = the_whole.1 }
