-- `log_freeze::emit_noted` meets its contract.
use Rattle.log_freeze.proofs.Answers.{internal-none, none-noted, noted-there, noted-written}
use Rattle.log_freeze.proofs.emit_noted.Goals as goal

pub returns-then-is_internal : goal.returns-then-is_internal
returns-then-is_internal c =
    let the_whole = internal-none c.args.run.now c.args.name.now c.args.out.now c.requires.2 c.args.slots.now c.requires.0 c.is_internal.ensures c.if-is_internal.true in record { result_value = the_whole.0; out_after = the_whole.1 }

pub returns-then-v-eq0 : goal.returns-then-v-eq0
returns-then-v-eq0 c =
    let the_whole = none-noted c.args.run.now c.args.name.now c.args.out.now c.requires.2 c.args.slots.now c.requires.0 c.is_internal.ensures c.if-is_internal.false
    c.choose-v.ensures c.if-v-eq0.true in record { result_value = the_whole.0; out_after = the_whole.1 }

pub emit_record-requires : goal.emit_record-requires
emit_record-requires c =
    noted-there c.args.run.now c.args.name.now c.args.out.now c.requires.2 c.args.slots.now c.requires.0 c.is_internal.ensures c.if-is_internal.false
    c.choose-v.ensures c.if-v-eq0.false

pub returns : goal.returns
returns c =
    let the_whole = noted-written c.args.run.now c.args.name.now c.args.out.now c.requires.2 c.args.slots.now c.requires.0 c.is_internal.ensures c.if-is_internal.false
    c.choose-v.ensures c.if-v-eq0.false (c.emit_record.ensures.result_value, c.emit_record.ensures.out_after) in record { result_value = the_whole.0; out_after = the_whole.1 }
