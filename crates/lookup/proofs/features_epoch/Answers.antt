-- `lookup::features_epoch` meets its contract.
use Rattle.lookup.proofs.Answers.{epoch_no_image, image_is, image_head, epoch-found}
use Rattle.lookup.proofs.features_epoch.Goals as goal

pub returns-then-not-is_image : goal.returns-then-not-is_image
returns-then-not-is_image c =
    epoch_no_image c.args.image.now c.args.image.now c.is_image.ensures c.if-not-is_image.true-raw

pub epoch_in-requires : goal.epoch_in-requires
epoch_in-requires c =
    image_head c.args.image.now (image_is c.args.image.now c.args.image.now c.is_image.ensures c.if-not-is_image.false-raw)

pub returns : goal.returns
returns c =
    epoch-found c.args.image.now c.args.image.now c.is_image.ensures c.if-not-is_image.false-raw c.epoch_in.ensures
