use native.Mathlib.Omega.{arith}
use Rattle.fields.proofs.Took.{moved}
use Rattle.tool_subjects.proofs.entities.say_entities.Goals as goal

pub next-requires : goal.next-requires
next-requires c = (c.loop-tag.invariant.0, c.loop-tag.invariant.1)

pub overflow_add-end : goal.overflow_add-end
overflow_add-end c = let m = moved c.in-Field.is c.next.ensures.1 in omega arith

pub slice_bounds-say_entity-count : goal.slice_bounds-say_entity-count
slice_bounds-say_entity-count c = let m = moved c.in-Field.is c.next.ensures.1 in omega arith

pub slice_bounds-say_entity-start : goal.slice_bounds-say_entity-start
slice_bounds-say_entity-start c = let m = moved c.in-Field.is c.next.ensures.1 in omega arith

pub slice_bounds-say_entity-end : goal.slice_bounds-say_entity-end
slice_bounds-say_entity-end c = let m = moved c.in-Field.is c.next.ensures.1 in omega arith

pub loop-tag-smaller : goal.loop-tag-smaller
loop-tag-smaller c =
    let m = moved c.in-Field.is c.next.ensures.1 in
    omega arith

pub loop-tag-preserved : goal.loop-tag-preserved
loop-tag-preserved c =
    let m = moved c.in-Field.is c.next.ensures.1 in
    (omega arith, omega arith)
