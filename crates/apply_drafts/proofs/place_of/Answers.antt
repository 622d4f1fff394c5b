use native.Mathlib.Omega.{arith}
use Rattle.model.specs.Number.{AreBytes}
use Rattle.fields.proofs.Took.{Moved, took, tore, ended, moved}
use Rattle.keys.proofs.Keys.{known_bytes}
use Rattle.apply_drafts.proofs.Places.{ahead_start, ahead_turn, spot_past, spot_at, spot_end, not_torn}
use Rattle.apply_drafts.proofs.place_of.Goals as goal

pub loop-t-init : goal.loop-t-init
loop-t-init c = ahead_start _ _ c.requires

pub next-requires : goal.next-requires
next-requires c = (c.loop-t.invariant.order, omega (arith, c.loop-t.invariant.last))

pub returns-then-tag-t : goal.returns-then-tag-t
returns-then-tag-t c =
    let bytes_in : AreBytes c.args.s.now = known_bytes c.args.s.now (λ i. omega (arith, c.type_inv.s i)) in
    let step : (Moved c.loop-t.c c.in-Field.t c.in-Field.start c.in-Field.len c.in-Field.next) = moved c.in-Field.is c.next.ensures.1 in
    spot_past _ _ _ c.loop-t.invariant bytes_in _ _ _ _ step _ (took _ c.next.ensures.0 c.in-Field.is) c.if-tag-t.true

pub overflow_add-result : goal.overflow_add-result
overflow_add-result c =
    let step : (Moved c.loop-t.c c.in-Field.t c.in-Field.start c.in-Field.len c.in-Field.next) = moved c.in-Field.is c.next.ensures.1 in
    let m = step in omega (arith, m.part, m.most, c.loop-t.invariant.last)

pub returns-then-t-tag : goal.returns-then-t-tag
returns-then-t-tag c =
    let bytes_in : AreBytes c.args.s.now = known_bytes c.args.s.now (λ i. omega (arith, c.type_inv.s i)) in
    let step : (Moved c.loop-t.c c.in-Field.t c.in-Field.start c.in-Field.len c.in-Field.next) = moved c.in-Field.is c.next.ensures.1 in
    spot_at _ _ _ c.loop-t.invariant bytes_in _ _ _ _ step _ (took _ c.next.ensures.0 c.in-Field.is) c.if-t-tag.true

pub loop-t-smaller : goal.loop-t-smaller
loop-t-smaller c =
    let step : (Moved c.loop-t.c c.in-Field.t c.in-Field.start c.in-Field.len c.in-Field.next) = moved c.in-Field.is c.next.ensures.1 in
    let m = step in omega (arith, m.onward, m.most, m.ends)

pub loop-t-preserved : goal.loop-t-preserved
loop-t-preserved c =
    let bytes_in : AreBytes c.args.s.now = known_bytes c.args.s.now (λ i. omega (arith, c.type_inv.s i)) in
    let step : (Moved c.loop-t.c c.in-Field.t c.in-Field.start c.in-Field.len c.in-Field.next) = moved c.in-Field.is c.next.ensures.1 in
    ahead_turn _ _ _ c.loop-t.invariant bytes_in _ _ _ _ step _ (took _ c.next.ensures.0 c.in-Field.is)
    c.if-tag-t.false c.if-t-tag.false

pub returns-in-Torn : goal.returns-in-Torn
returns-in-Torn c =
    absurd (not_torn _ _ _ c.loop-t.invariant (tore _ c.next.ensures.0 c.in-Torn.is))

pub returns-in-End : goal.returns-in-End
returns-in-End c =
    let bytes_in : AreBytes c.args.s.now = known_bytes c.args.s.now (λ i. omega (arith, c.type_inv.s i)) in
    spot_end _ _ _ c.loop-t.invariant bytes_in (ended _ c.next.ensures.0 c.in-End.is)
