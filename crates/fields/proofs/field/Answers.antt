use mathlib.Core.Path.{refl, sym, ap, ◌∙◌}
use native.Mathlib.Omega.{arith}
use Rattle.fields.specs.Fields.{place_of}
use Rattle.fields.proofs.Took.{took, tore, ended, moved, place_found, place-passed}
use Rattle.fields.proofs.field.Goals as goal

pub loop-t-init : goal.loop-t-init
loop-t-init c = (c.requires.0, refl, c.requires.1, refl)

pub next-requires : goal.next-requires
next-requires c = (c.loop-t.invariant.0, c.loop-t.invariant.2)

pub returns-then-t-tag : goal.returns-then-t-tag
returns-then-t-tag c =
    let start = c.loop-t in
    let step = c.next.ensures in
    let m = moved c.in-Field.is step.1 in
    place_found _ m start.invariant.2 (took _ step.0 c.in-Field.is) c.if-t-tag.true ∙ start.invariant.3

pub loop-t-smaller : goal.loop-t-smaller
loop-t-smaller c = let m = moved c.in-Field.is c.next.ensures.1 in omega arith

pub loop-t-preserved : goal.loop-t-preserved
loop-t-preserved c =
    let start = c.loop-t in
    let step = c.next.ensures in
    let m = moved c.in-Field.is step.1 in (
      omega arith,
      omega arith,
      omega arith,
      place-passed _ m start.invariant.2 (took _ step.0 c.in-Field.is) c.if-t-tag.false ∙ start.invariant.3,
    )

pub returns-in-Torn : goal.returns-in-Torn
unfolding place_of
returns-in-Torn c = ap (place_of _ _) (sym (tore _ c.next.ensures.0 c.in-Torn.is)) ∙ c.loop-t.invariant.3

pub returns-in-End : goal.returns-in-End
unfolding place_of
returns-in-End c = ap (place_of _ _) (sym (ended _ c.next.ensures.0 c.in-End.is)) ∙ c.loop-t.invariant.3
