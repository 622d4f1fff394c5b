-- `lookup::topic_by_id` meets its contract.
use Rattle.find.proofs.Lent.{lent-entries, lent-kept, lent-held}
use Rattle.lookup.proofs.Answers.{id_no_image, image_is, id_found}
use Rattle.lookup.proofs.topic_by_id.Goals as goal

pub returns-then-not-is_image : goal.returns-then-not-is_image
returns-then-not-is_image c =
    let the_whole = id_no_image c.args.image.now c.args.out.now c.is_image.ensures c.if-not-is_image.true-raw _ in record { result_value = the_whole.0; out_after = the_whole.1 }

pub reals_end-end-requires : goal.reals_end-end-requires
reals_end-end-requires c =
    image_is c.args.image.now c.args.image.now c.is_image.ensures c.if-not-is_image.false-raw

pub emit_named-requires : goal.emit_named-requires
emit_named-requires c =
    (lent-entries _ c.reals_end-end.ensures, lent-kept _ c.reals_end-end.ensures)

pub returns : goal.returns
returns c =
    let the_whole = id_found c.args.image.now c.args.out.now c.is_image.ensures c.if-not-is_image.false-raw _ (lent-held _ c.reals_end-end.ensures)
    (c.emit_named.ensures.result_value, c.emit_named.ensures.out_after) in record { result_value = the_whole.0; out_after = the_whole.1 }
