-- `views::view_partition` meets its contract.
use mathlib.Core.Path.{ap}
use lib.ListN.{length}
use Rattle.find.proofs.Queries.{partition_query}
use Rattle.views.proofs.Queries.{partition-refused, query_image, query_fits, partition-found}
use Rattle.views.proofs.view_partition.Goals as goal

pub returns-then-f-ne0 : goal.returns-then-f-ne0
returns-then-f-ne0 c =
    let the_whole = partition-refused c.args.image.now _ _ c.args.out.now c.query_fault-f.ensures c.if-f-ne0.true _ in record { result_value = the_whole.0; out_after = the_whole.1 }

pub entry-requires : goal.entry-requires
entry-requires c =
    let image = c.args.image.now in
    let out = c.args.out.now in (
      query_image image _ _ out c.query_fault-f.ensures c.if-f-ne0.false,
      partition_query _ _ (query_fits image _ _ out c.query_fault-f.ensures c.if-f-ne0.false) (ap length c.put.ensures),
    )

pub returns : goal.returns
returns c =
    let the_whole = partition-found c.args.image.now _ _ c.args.out.now c.query_fault-f.ensures c.if-f-ne0.false _ _ c.put.ensures
    (c.entry.ensures.result_value, c.entry.ensures.out_after) in record { result_value = the_whole.0; out_after = the_whole.1 }
