-- `lookup_freezes::emit_freeze` meets its contract.
use Rattle.lookup_freezes.proofs.Places.{internal-none, chosen_emitted}
use Rattle.lookup_freezes.proofs.emit_freeze.Goals as goal

pub returns-then-is_internal : goal.returns-then-is_internal
returns-then-is_internal c =
    let the_whole = internal-none c.args.s.now c.args.name.now c.is_internal.ensures c.if-is_internal.true c.args.out.now in record { result_value = the_whole.0; out_after = the_whole.1 }

pub emit_place-requires : goal.emit_place-requires
emit_place-requires c = c.choose-p.ensures.holds

pub returns : goal.returns
returns c =
    let the_whole = chosen_emitted c.args.s.now c.args.name.now c.is_internal.ensures c.if-is_internal.false c.choose-p.ensures c.args.out.now
    (c.emit_place.ensures.result_value, c.emit_place.ensures.out_after) in record { result_value = the_whole.0; out_after = the_whole.1 }
