-- `lookup::log_offset` meets its contract.
use Rattle.lookup.proofs.Answers.{offset_no_image, image_is, image_head, offset-found}
use Rattle.lookup.proofs.log_offset.Goals as goal

pub returns-then-not-is_image : goal.returns-then-not-is_image
returns-then-not-is_image c =
    offset_no_image c.args.image.now c.args.image.now c.is_image.ensures c.if-not-is_image.true-raw

pub offset_in-requires : goal.offset_in-requires
offset_in-requires c =
    image_head c.args.image.now (image_is c.args.image.now c.args.image.now c.is_image.ensures c.if-not-is_image.false-raw)

pub returns : goal.returns
returns c =
    offset-found c.args.image.now c.args.image.now c.is_image.ensures c.if-not-is_image.false-raw c.offset_in.ensures
