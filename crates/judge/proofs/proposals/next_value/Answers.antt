use native.Mathlib.Omega.{arith}
use Rattle.judge.proofs.Approvals.{passed_start, step_room, step_falls, found, passed, none_torn, none_left}
use Rattle.judge.proofs.proposals.next_value.Goals as goal

pub loop-t-init : goal.loop-t-init
loop-t-init c = passed_start _ _ _ c.requires

pub next-requires : goal.next-requires
next-requires c = c.loop-t.invariant.inside

pub overflow_add-result : goal.overflow_add-result
overflow_add-result c = omega (arith, step_room c.loop-t.invariant c.next.ensures c.in-Field.is)

pub returns-then-t-tag : goal.returns-then-t-tag
returns-then-t-tag c = found c.loop-t.invariant c.next.ensures c.in-Field.is c.if-t-tag.true

pub loop-t-smaller : goal.loop-t-smaller
loop-t-smaller c = step_falls c.loop-t.invariant c.next.ensures c.in-Field.is

pub loop-t-preserved : goal.loop-t-preserved
loop-t-preserved c = passed c.loop-t.invariant c.next.ensures c.in-Field.is c.if-t-tag.false

pub returns-in-Torn : goal.returns-in-Torn
returns-in-Torn c = none_torn c.loop-t.invariant c.next.ensures c.in-Torn.is

pub returns-in-End : goal.returns-in-End
returns-in-End c = none_left c.loop-t.invariant c.next.ensures c.in-End.is
