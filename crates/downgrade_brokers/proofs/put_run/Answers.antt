use native.Mathlib.Omega.{arith}
use Rattle.fields.proofs.Took.{Moved, took, tore, ended, moved}
use Rattle.records.proofs.Growing.{grown_length}
use Rattle.downgrade_brokers.proofs.Walks.{write_start, inside, not_torn, falls, ends_inside, known_fits, write_turn, wrote}
use Rattle.downgrade_brokers.proofs.put_run.Goals as goal

pub loop-tag-init : goal.loop-tag-init
loop-tag-init c =
    write_start _ _ _ _ _ c.requires.0 c.requires.1 c.requires.2

pub next-requires : goal.next-requires
next-requires c = inside c.loop-tag.invariant.ahead

pub overflow_add-end : goal.overflow_add-end
overflow_add-end c =
    let step : (Moved c.loop-tag.c c.in-Field.tag c.in-Field.start c.in-Field.len c.in-Field.next) = moved c.in-Field.is c.next.ensures.1 in
    omega (arith, ends_inside c.loop-tag.invariant.ahead step)

pub slice_bounds-put_known-start : goal.slice_bounds-put_known-start
slice_bounds-put_known-start c =
    let step : (Moved c.loop-tag.c c.in-Field.tag c.in-Field.start c.in-Field.len c.in-Field.next) = moved c.in-Field.is c.next.ensures.1 in
    omega (arith, ends_inside c.loop-tag.invariant.ahead step)

pub slice_bounds-put_known-end : goal.slice_bounds-put_known-end
slice_bounds-put_known-end c =
    let step : (Moved c.loop-tag.c c.in-Field.tag c.in-Field.start c.in-Field.len c.in-Field.next) = moved c.in-Field.is c.next.ensures.1 in
    omega (arith, ends_inside c.loop-tag.invariant.ahead step)

pub put_known-to-requires : goal.put_known-to-requires
put_known-to-requires c =
    let step : (Moved c.loop-tag.c c.in-Field.tag c.in-Field.start c.in-Field.len c.in-Field.next) = moved c.in-Field.is c.next.ensures.1 in
    (step.byte, known_fits c.loop-tag.invariant step (took _ c.next.ensures.0 c.in-Field.is))

pub loop-tag-smaller : goal.loop-tag-smaller
loop-tag-smaller c =
    let step : (Moved c.loop-tag.c c.in-Field.tag c.in-Field.start c.in-Field.len c.in-Field.next) = moved c.in-Field.is c.next.ensures.1 in
    falls c.loop-tag.invariant.ahead step

pub loop-tag-preserved : goal.loop-tag-preserved
loop-tag-preserved c =
    let step : (Moved c.loop-tag.c c.in-Field.tag c.in-Field.start c.in-Field.len c.in-Field.next) = moved c.in-Field.is c.next.ensures.1 in
    write_turn c.loop-tag.invariant step (took _ c.next.ensures.0 c.in-Field.is) c.put_known-to.ensures

pub shape_of-out-in-Torn : goal.shape_of-out-in-Torn
shape_of-out-in-Torn c = grown_length c.loop-tag.invariant.grows

pub returns-in-Torn : goal.returns-in-Torn
returns-in-Torn c = not_torn c.loop-tag.invariant.ahead (tore _ c.next.ensures.0 c.in-Torn.is)

pub shape_of-out-in-End : goal.shape_of-out-in-End
shape_of-out-in-End c = grown_length c.loop-tag.invariant.grows

pub returns-in-End : goal.returns-in-End
returns-in-End c = wrote c.loop-tag.invariant (ended _ c.next.ensures.0 c.in-End.is)
