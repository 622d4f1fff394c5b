use native.Mathlib.Omega.{arith}
use Rattle.kafka_frame.proofs.Tagged.{left-start, none_left, field-refused, field_skipped}
use Rattle.kafka_frame.proofs.skip_fields.Goals as goal

pub loop-left-init : goal.loop-left-init
loop-left-init c = left-start c.args.s.now c.args.at c.args.count c.requires

pub skip_field-requires : goal.skip_field-requires
skip_field-requires c = c.loop-left.invariant.within

pub returns-in-Refused : goal.returns-in-Refused
returns-in-Refused c =
    field-refused c.loop-left.invariant c.loop-left-test.true c.skip_field.result c.skip_field.ensures c.in-Refused.is

pub overflow_sub-left : goal.overflow_sub-left
overflow_sub-left c = omega (arith, c.loop-left-test.true)

pub loop-left-smaller : goal.loop-left-smaller
loop-left-smaller c = omega (arith, c.loop-left-test.true)

pub loop-left-preserved : goal.loop-left-preserved
loop-left-preserved c =
    field_skipped c.loop-left.invariant c.loop-left-test.true c.skip_field.result c.skip_field.ensures c.in-To.is

pub returns : goal.returns
returns c = none_left c.loop-left.invariant c.loop-left-test.false
