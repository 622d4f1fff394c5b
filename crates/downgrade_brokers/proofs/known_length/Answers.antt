use native.Mathlib.Omega.{arith}
use Rattle.fields.proofs.Took.{Moved, took, tore, ended, moved}
use Rattle.downgrade_brokers.proofs.Walks.{count-start, inside, not_torn, falls, counted, count_fits_lem, count_turn}
use Rattle.downgrade_brokers.proofs.known_length.Goals as goal

pub loop-tag-init : goal.loop-tag-init
loop-tag-init c = count-start _ _ _ c.requires.0 c.requires.1

pub next-requires : goal.next-requires
next-requires c = inside c.loop-tag.invariant.ahead

pub known_size-n-requires : goal.known_size-n-requires
known_size-n-requires c =
    let step : (Moved c.loop-tag.c c.in-Field.tag c.in-Field.start c.in-Field.len c.in-Field.next) = moved c.in-Field.is c.next.ensures.1 in
    step.short

pub overflow_add-n : goal.overflow_add-n
overflow_add-n c =
    let step : (Moved c.loop-tag.c c.in-Field.tag c.in-Field.start c.in-Field.len c.in-Field.next) = moved c.in-Field.is c.next.ensures.1 in
    let fits = count_fits_lem c.loop-tag.invariant step (took _ c.next.ensures.0 c.in-Field.is) c.known_size-n.ensures in omega arith

pub loop-tag-smaller : goal.loop-tag-smaller
loop-tag-smaller c =
    let step : (Moved c.loop-tag.c c.in-Field.tag c.in-Field.start c.in-Field.len c.in-Field.next) = moved c.in-Field.is c.next.ensures.1 in
    falls c.loop-tag.invariant.ahead step

pub loop-tag-preserved : goal.loop-tag-preserved
loop-tag-preserved c =
    let step : (Moved c.loop-tag.c c.in-Field.tag c.in-Field.start c.in-Field.len c.in-Field.next) = moved c.in-Field.is c.next.ensures.1 in
    count_turn c.loop-tag.invariant step (took _ c.next.ensures.0 c.in-Field.is) c.known_size-n.ensures

pub returns-in-Torn : goal.returns-in-Torn
returns-in-Torn c = not_torn c.loop-tag.invariant.ahead (tore _ c.next.ensures.0 c.in-Torn.is)

pub returns-in-End : goal.returns-in-End
returns-in-End c = counted c.loop-tag.invariant (ended _ c.next.ensures.0 c.in-End.is)
