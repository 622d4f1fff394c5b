-- `find::emit_place` meets its contract.
use Rattle.find.proofs.Finds.{emit-none, emit_entry, lent_entire}
use Rattle.find.proofs.emit_place.Goals as goal

pub slice_bounds-emit_returned-end : goal.slice_bounds-emit_returned-end
slice_bounds-emit_returned-end c = (c.requires c.if-at-end.true).within

pub emit_returned-requires : goal.emit_returned-requires
emit_returned-requires c =
    lent_entire c.args.s.now c.args.at c.args.end c.requires c.if-at-end.true

pub returns-then-at-end : goal.returns-then-at-end
returns-then-at-end c =
    let the_whole = emit_entry c.args.s.now c.args.at c.args.end c.requires c.if-at-end.true _ c.emit_returned.ensures.result_value
    c.emit_returned.ensures.out_after in record { result_value = the_whole.0; out_after = the_whole.1 }

pub returns : goal.returns
returns c =
    let the_whole = emit-none c.args.s.now c.args.at c.args.end c.requires c.if-at-end.false _ in record { result_value = the_whole.0; out_after = the_whole.1 }
