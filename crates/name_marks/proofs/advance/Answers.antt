use mathlib.Core.Path.{subst}
use native.Mathlib.Omega.{arith}
use Rattle.names.specs.Lists.{NameAs}
use Rattle.names.specs.declared.Name.TheVariants.{At}
use Rattle.name_marks.proofs.Marking.{reached-end, reached-here, behind-whole, behind_on}
use Rattle.name_marks.proofs.advance.Goals as goal

pub loop-at-init : goal.loop-at-init
loop-at-init c = c.requires

pub name_at-requires : goal.name_at-requires
name_at-requires c = c.loop-at-test.true

pub returns-in-Torn : goal.returns-in-Torn
returns-in-Torn c =
    absurd (behind-whole c.loop-at.invariant c.loop-at-test.true (subst (NameAs _ c.loop-at.at) c.in-Torn.is c.name_at.ensures))

pub slice_bounds-is_below-count : goal.slice_bounds-is_below-count
slice_bounds-is_below-count c =
    let it : (NameAs c.args.list.now c.loop-at.at (At c.in-At.start c.in-At.end)) = subst (NameAs _ c.loop-at.at) c.in-At.is c.name_at.ensures in
    let t = it in omega (arith, t.0, t.1, t.2)

pub slice_bounds-is_below-start : goal.slice_bounds-is_below-start
slice_bounds-is_below-start c =
    let it : (NameAs c.args.list.now c.loop-at.at (At c.in-At.start c.in-At.end)) = subst (NameAs _ c.loop-at.at) c.in-At.is c.name_at.ensures in
    let t = it in omega (arith, t.0, t.1, t.2)

pub slice_bounds-is_below-end : goal.slice_bounds-is_below-end
slice_bounds-is_below-end c =
    let it : (NameAs c.args.list.now c.loop-at.at (At c.in-At.start c.in-At.end)) = subst (NameAs _ c.loop-at.at) c.in-At.is c.name_at.ensures in
    let t = it in omega (arith, t.0, t.1, t.2)

pub returns-then-not-is_below : goal.returns-then-not-is_below
returns-then-not-is_below c =
    let it : (NameAs c.args.list.now c.loop-at.at (At c.in-At.start c.in-At.end)) = subst (NameAs _ c.loop-at.at) c.in-At.is c.name_at.ensures in
    reached-here c.loop-at.invariant c.loop-at-test.true it c.is_below.ensures c.if-not-is_below.true-raw

pub overflow_add-n : goal.overflow_add-n
overflow_add-n c =
    let p = c.loop-at.invariant.place in
    omega (arith, p.room, c.loop-at-test.true)

pub loop-at-smaller : goal.loop-at-smaller
loop-at-smaller c =
    let it : (NameAs c.args.list.now c.loop-at.at (At c.in-At.start c.in-At.end)) = subst (NameAs _ c.loop-at.at) c.in-At.is c.name_at.ensures in
    let t = it in
    omega (arith, t.0, t.1, t.2, c.loop-at-test.true)

pub loop-at-preserved : goal.loop-at-preserved
loop-at-preserved c =
    let it : (NameAs c.args.list.now c.loop-at.at (At c.in-At.start c.in-At.end)) = subst (NameAs _ c.loop-at.at) c.in-At.is c.name_at.ensures in
    behind_on c.loop-at.invariant c.loop-at-test.true it c.is_below.ensures c.if-not-is_below.false-raw

pub returns : goal.returns
returns c = reached-end c.loop-at.invariant c.loop-at-test.false
