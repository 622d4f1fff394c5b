-- `views::view_freeze` meets its contract: of a visible name the viewer's freeze is everyone's.
use Rattle.find.proofs.Lent.{lent-entries, lent-kept, lent-held}
use Rattle.views.proofs.Queries.{freeze-refused, query_image, query_fits, freeze-found}
use Rattle.views.proofs.view_freeze.Goals as goal

pub returns-then-f-ne0 : goal.returns-then-f-ne0
returns-then-f-ne0 c =
    let the_whole = freeze-refused c.args.image.now _ _ c.args.out.now c.query_fault-f.ensures c.if-f-ne0.true in record { result_value = the_whole.0; out_after = the_whole.1 }

pub reals_end-end-requires : goal.reals_end-end-requires
reals_end-end-requires c =
    query_image c.args.image.now _ _ c.args.out.now c.query_fault-f.ensures c.if-f-ne0.false

pub emit_freeze-requires : goal.emit_freeze-requires
emit_freeze-requires c = (
  lent-entries _ c.reals_end-end.ensures,
  lent-kept _ c.reals_end-end.ensures,
  query_fits c.args.image.now _ _ c.args.out.now c.query_fault-f.ensures c.if-f-ne0.false,
)

pub returns : goal.returns
returns c =
    let the_whole = freeze-found c.args.image.now _ _ c.args.out.now c.query_fault-f.ensures c.if-f-ne0.false
    (lent-held _ c.reals_end-end.ensures) (c.emit_freeze.ensures.result_value, c.emit_freeze.ensures.out_after) in record { result_value = the_whole.0; out_after = the_whole.1 }
