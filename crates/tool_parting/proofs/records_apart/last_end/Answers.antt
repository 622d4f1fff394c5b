use native.Mathlib.Omega.{arith}
use Rattle.fields.proofs.Took.{moved}
use Rattle.tool_parting.proofs.records_apart.last_end.Goals as goal

pub loop-tag-smaller-then-tag-sought : goal.loop-tag-smaller-then-tag-sought
loop-tag-smaller-then-tag-sought c =
    let m = moved c.in-Field.is c.next.ensures.1 in
    omega arith

pub loop-tag-preserved-then-tag-sought : goal.loop-tag-preserved-then-tag-sought
loop-tag-preserved-then-tag-sought c =
    let m = moved c.in-Field.is c.next.ensures.1 in
    (omega arith, omega arith, omega arith)

pub loop-tag-smaller : goal.loop-tag-smaller
loop-tag-smaller c =
    let m = moved c.in-Field.is c.next.ensures.1 in
    omega arith

pub loop-tag-preserved : goal.loop-tag-preserved
loop-tag-preserved c =
    let m = moved c.in-Field.is c.next.ensures.1 in
    (omega arith, omega arith, omega arith)
