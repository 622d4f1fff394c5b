-- `views::view_topic` meets its contract.
use Rattle.find.proofs.Queries.{topic_query}
use Rattle.views.proofs.Queries.{topic_refused, query_image, query_fits, topic_found}
use Rattle.views.proofs.view_topic.Goals as goal

pub returns-then-f-ne0 : goal.returns-then-f-ne0
returns-then-f-ne0 c =
    let the_whole = topic_refused c.args.image.now _ _ c.args.out.now c.query_fault-f.ensures c.if-f-ne0.true in record { result_value = the_whole.0; out_after = the_whole.1 }

pub entry-requires : goal.entry-requires
entry-requires c =
    let image = c.args.image.now in
    let out = c.args.out.now in
    (query_image image _ _ out c.query_fault-f.ensures c.if-f-ne0.false, topic_query _ (query_fits image _ _ out c.query_fault-f.ensures c.if-f-ne0.false))

pub returns : goal.returns
returns c =
    let the_whole = topic_found c.args.image.now _ _ c.args.out.now c.query_fault-f.ensures c.if-f-ne0.false (c.entry.ensures.result_value, c.entry.ensures.out_after) in record { result_value = the_whole.0; out_after = the_whole.1 }
