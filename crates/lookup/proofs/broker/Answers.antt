-- `lookup::broker` meets its contract.
use mathlib.Core.Path.{ap}
use lib.ListN.{length}
use Rattle.find.proofs.Queries.{broker_query}
use Rattle.lookup.proofs.Answers.{broker_no_image, image_is, broker_found}
use Rattle.lookup.proofs.broker.Goals as goal

pub returns-then-not-is_image : goal.returns-then-not-is_image
returns-then-not-is_image c =
    let the_whole = broker_no_image c.args.image.now c.args.out.now c.is_image.ensures c.if-not-is_image.true-raw _ in record { result_value = the_whole.0; out_after = the_whole.1 }

pub entry-requires : goal.entry-requires
entry-requires c =
    (image_is c.args.image.now c.args.image.now c.is_image.ensures c.if-not-is_image.false-raw, broker_query _ (ap length c.put.ensures))

pub returns : goal.returns
returns c =
    let the_whole = broker_found c.args.image.now c.args.out.now c.is_image.ensures c.if-not-is_image.false-raw _ _ c.put.ensures (c.entry.ensures.result_value, c.entry.ensures.out_after) in record { result_value = the_whole.0; out_after = the_whole.1 }
