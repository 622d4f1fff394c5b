use native.Mathlib.Omega.{arith}
use Rattle.fields.proofs.Took.{moved}
use Rattle.tool_details.proofs.lists.say_pairs.Goals as goal

pub loop-tag-smaller-then-tag-sought : goal.loop-tag-smaller-then-tag-sought
loop-tag-smaller-then-tag-sought c =
    let m = moved c.in-Field.is c.next.ensures.1 in
    omega arith

pub loop-tag-preserved-then-tag-sought : goal.loop-tag-preserved-then-tag-sought
loop-tag-preserved-then-tag-sought c =
    let m = moved c.in-Field.is c.next.ensures.1 in
    (omega arith, omega arith)

pub overflow_add-end : goal.overflow_add-end
overflow_add-end c =
    let m = moved c.in-Field.is c.next.ensures.1 in
    omega arith

pub slice_bounds-say_pair-count : goal.slice_bounds-say_pair-count
slice_bounds-say_pair-count c =
    let m = moved c.in-Field.is c.next.ensures.1 in
    omega arith

pub slice_bounds-say_pair-start : goal.slice_bounds-say_pair-start
slice_bounds-say_pair-start c =
    let m = moved c.in-Field.is c.next.ensures.1 in
    omega arith

pub slice_bounds-say_pair-end : goal.slice_bounds-say_pair-end
slice_bounds-say_pair-end c =
    let m = moved c.in-Field.is c.next.ensures.1 in
    omega arith

pub loop-tag-smaller : goal.loop-tag-smaller
loop-tag-smaller c =
    let m = moved c.in-Field.is c.next.ensures.1 in
    omega arith

pub loop-tag-preserved : goal.loop-tag-preserved
loop-tag-preserved c =
    let m = moved c.in-Field.is c.next.ensures.1 in
    (omega arith, omega arith)
