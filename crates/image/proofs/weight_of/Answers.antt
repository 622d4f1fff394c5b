-- `image::weight_of` meets its contract.
use Rattle.image.proofs.Steps.{weight_less, weight-whole}
use Rattle.image.proofs.weight_of.Goals as goal

pub returns-then-has_producer_ids : goal.returns-then-has_producer_ids
returns-then-has_producer_ids c =
    weight_less c.args.reals.now c.args.used c.has_producer_ids.ensures c.if-has_producer_ids.true

pub returns : goal.returns
returns c =
    weight-whole c.args.reals.now c.args.used c.has_producer_ids.ensures c.if-has_producer_ids.false
