-- `lookup::short_count` meets its contract.
use Rattle.find.proofs.Lent.{lent-entries, lent-held}
use Rattle.lookup.proofs.Answers.{short_no_image, image_is, short-found}
use Rattle.lookup.proofs.short_count.Goals as goal

pub returns-then-not-is_image : goal.returns-then-not-is_image
returns-then-not-is_image c =
    short_no_image c.args.image.now c.args.image.now c.is_image.ensures c.if-not-is_image.true-raw

pub reals_end-end-requires : goal.reals_end-end-requires
reals_end-end-requires c =
    image_is c.args.image.now c.args.image.now c.is_image.ensures c.if-not-is_image.false-raw

pub short_in-requires : goal.short_in-requires
short_in-requires c = lent-entries _ c.reals_end-end.ensures

pub returns : goal.returns
returns c =
    short-found c.args.image.now c.args.image.now c.is_image.ensures c.if-not-is_image.false-raw (lent-held _ c.reals_end-end.ensures) c.short_in.ensures
