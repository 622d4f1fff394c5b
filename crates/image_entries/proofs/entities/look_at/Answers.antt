use Prim.Native.Nat.{◌+◌}
use native.Mathlib.Omega.{arith}
use Rattle.keys.proofs.Elements.{Stands}
use Rattle.image_entries.proofs.InOrder.{ordered-start, other_left, torn_left, ended_left, entity, below, not_below}
use Rattle.image_entries.proofs.entities.look_at.Goals as goal

pub loop-tag-init : goal.loop-tag-init
loop-tag-init c = ordered-start _ c.requires

pub next-requires : goal.next-requires
next-requires c = c.loop-tag.invariant.inside

pub returns-then-tag-ne1 : goal.returns-then-tag-ne1
returns-then-tag-ne1 c =
    other_left c.loop-tag.invariant c.next.ensures c.in-Field.is c.if-tag-ne1.true

pub overflow_add-end : goal.overflow_add-end
overflow_add-end c =
    let found : (Stands c.args.e.now c.loop-tag.c c.in-Field.start (c.in-Field.start + c.in-Field.len) c.in-Field.next) = entity c.loop-tag.invariant c.next.ensures c.in-Field.is c.if-tag-ne1.false in
    let t = found in omega (arith, t.most)

pub is_below-requires : goal.is_below-requires
is_below-requires c =
    let found : (Stands c.args.e.now c.loop-tag.c c.in-Field.start (c.in-Field.start + c.in-Field.len) c.in-Field.next) = entity c.loop-tag.invariant c.next.ensures c.in-Field.is c.if-tag-ne1.false in
    let t = found in
    let l = c.loop-tag.invariant.before in
    ((omega (arith, t.forward), omega (arith, t.most)), (omega (arith, t.forward), omega (arith, t.most)))

pub returns-then-is_below : goal.returns-then-is_below
returns-then-is_below c =
    below c.loop-tag.invariant c.next.ensures c.in-Field.is c.if-tag-ne1.false
    c.is_below.ensures c.if-is_below.true

pub loop-tag-smaller : goal.loop-tag-smaller
loop-tag-smaller c =
    let found : (Stands c.args.e.now c.loop-tag.c c.in-Field.start (c.in-Field.start + c.in-Field.len) c.in-Field.next) = entity c.loop-tag.invariant c.next.ensures c.in-Field.is c.if-tag-ne1.false in
    let t = found in omega (arith, t.onwards, t.ends, t.inside)

pub loop-tag-preserved : goal.loop-tag-preserved
loop-tag-preserved c =
    not_below c.loop-tag.invariant c.next.ensures c.in-Field.is c.if-tag-ne1.false
    c.is_below.ensures c.if-is_below.false

pub returns-in-Torn : goal.returns-in-Torn
returns-in-Torn c = torn_left c.loop-tag.invariant c.next.ensures c.in-Torn.is

pub returns-in-End : goal.returns-in-End
returns-in-End c = ended_left c.loop-tag.invariant c.next.ensures c.in-End.is
