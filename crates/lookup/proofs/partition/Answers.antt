-- `lookup::partition` meets its contract.
use mathlib.Core.Path.{sym, ap, ◌∙◌}
use lib.ListN.{length}
use Rattle.find.proofs.Queries.{partition_query}
use Rattle.lookup_freezes.proofs.Names.{name_fits}
use Rattle.lookup.proofs.Answers.{partition_no_image, image_is, partition-refused, partition-found}
use Rattle.lookup.proofs.partition.Goals as goal

pub returns-then-not-is_image : goal.returns-then-not-is_image
returns-then-not-is_image c =
    let the_whole = partition_no_image c.args.image.now c.args.out.now c.is_image.ensures c.if-not-is_image.true-raw _ _ in record { result_value = the_whole.0; out_after = the_whole.1 }

pub returns-then-f-ne0 : goal.returns-then-f-ne0
returns-then-f-ne0 c =
    let the_whole = partition-refused c.args.image.now c.args.out.now c.is_image.ensures c.if-not-is_image.false-raw _ c.text_fault-f.ensures c.if-f-ne0.true _ in record { result_value = the_whole.0; out_after = the_whole.1 }

pub entry-requires : goal.entry-requires
entry-requires c = (
  image_is c.args.image.now c.args.image.now c.is_image.ensures c.if-not-is_image.false-raw,
  partition_query _ _ (name_fits _ (sym c.if-f-ne0.false ∙ c.text_fault-f.ensures)) (ap length c.put.ensures),
)

pub returns : goal.returns
returns c =
    let the_whole = partition-found c.args.image.now c.args.out.now c.is_image.ensures c.if-not-is_image.false-raw _ _ _ c.put.ensures
    (sym c.if-f-ne0.false ∙ c.text_fault-f.ensures) (c.entry.ensures.result_value, c.entry.ensures.out_after) in record { result_value = the_whole.0; out_after = the_whole.1 }
