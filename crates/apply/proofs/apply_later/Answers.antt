-- `apply::apply_later` meets its contract: 21 where the offset is not above the image's.
use Rattle.apply.proofs.Applying.{image_long, not_later, later}
use Rattle.apply.proofs.apply_later.Goals as goal

pub offset_in-requires : goal.offset_in-requires
offset_in-requires c = image_long _ c.requires.0

pub returns-then-not-is_later : goal.returns-then-not-is_later
returns-then-not-is_later c =
    let the_whole = not_later c.args.image.now _ _ c.offset_in.ensures c.is_later.ensures c.if-not-is_later.true-raw in record { result_value = the_whole.0; image_after = the_whole.1 }

pub returns : goal.returns
returns c =
    let the_whole = later c.args.image.now _ _ c.offset_in.ensures c.is_later.ensures c.if-not-is_later.false-raw (c.apply_record.ensures.result_value, c.apply_record.ensures.image_after) in record { result_value = the_whole.0; image_after = the_whole.1 }
