use native.Mathlib.Omega.{arith}
use Rattle.model.specs.Number.{AreBytes}
use Rattle.fields.proofs.Took.{Moved, took, tore, ended, moved}
use Rattle.keys.proofs.Keys.{known_bytes}
use Rattle.image_groups.proofs.Leading.{ahead_start, ahead_turn, ahead_end, leading_other, leading_torn, leading_done}
use Rattle.image_groups.proofs.members.leading_end.Goals as goal

pub loop-tag-init : goal.loop-tag-init
loop-tag-init c = ahead_start _ c.requires

pub next-requires : goal.next-requires
next-requires c = (c.loop-tag.invariant.order, omega (arith, c.loop-tag.invariant.last))

pub returns-then-tag-ne1 : goal.returns-then-tag-ne1
returns-then-tag-ne1 c =
    ahead_end _ _ c.loop-tag.invariant c.requires _ (took _ c.next.ensures.0 c.in-Field.is) (leading_other _ _ _ c.if-tag-ne1.true)

pub loop-tag-smaller : goal.loop-tag-smaller
loop-tag-smaller c =
    let step : (Moved c.loop-tag.c c.in-Field.tag c.in-Field.start c.in-Field.len c.in-Field.next) = moved c.in-Field.is c.next.ensures.1 in
    let m = step in omega (arith, m.onward, m.most, m.ends)

pub loop-tag-preserved : goal.loop-tag-preserved
loop-tag-preserved c =
    let bytes_in : AreBytes c.args.s.now = known_bytes c.args.s.now (λ i. omega (arith, c.type_inv.s i)) in
    let step : (Moved c.loop-tag.c c.in-Field.tag c.in-Field.start c.in-Field.len c.in-Field.next) = moved c.in-Field.is c.next.ensures.1 in
    ahead_turn _ _ c.loop-tag.invariant bytes_in _ _ _ _ step _ (took _ c.next.ensures.0 c.in-Field.is) c.if-tag-ne1.false

pub returns-in-Torn : goal.returns-in-Torn
returns-in-Torn c =
    ahead_end _ _ c.loop-tag.invariant c.requires _ (tore _ c.next.ensures.0 c.in-Torn.is) leading_torn

pub returns-in-End : goal.returns-in-End
returns-in-End c =
    ahead_end _ _ c.loop-tag.invariant c.requires _ (ended _ c.next.ensures.0 c.in-End.is) leading_done
