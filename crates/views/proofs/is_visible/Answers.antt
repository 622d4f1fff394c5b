use mathlib.Core.Path.{subst}
use native.Mathlib.Omega.{arith}
use Rattle.names.specs.Lists.{NameAs}
use Rattle.names.specs.declared.Name.TheVariants.{At}
use Rattle.views.proofs.Prefixes.{left-all, left-none, left_torn, left_shown, left_on}
use Rattle.views.proofs.is_visible.Goals as goal

pub loop-at-init : goal.loop-at-init
loop-at-init c = left-all _ _ c.requires

pub name_at-requires : goal.name_at-requires
name_at-requires c = c.loop-at-test.true

pub returns-in-Torn : goal.returns-in-Torn
returns-in-Torn c =
    left_torn c.loop-at.invariant c.loop-at-test.true (subst (NameAs _ c.loop-at.at) c.in-Torn.is c.name_at.ensures)

pub slice_bounds-begins_with-count : goal.slice_bounds-begins_with-count
slice_bounds-begins_with-count c =
    let it : (NameAs c.args.list.now c.loop-at.at (At c.in-At.start c.in-At.end)) = subst (NameAs _ c.loop-at.at) c.in-At.is c.name_at.ensures in
    let t = it in omega (arith, t.0, t.1, t.2)

pub slice_bounds-begins_with-start : goal.slice_bounds-begins_with-start
slice_bounds-begins_with-start c =
    let it : (NameAs c.args.list.now c.loop-at.at (At c.in-At.start c.in-At.end)) = subst (NameAs _ c.loop-at.at) c.in-At.is c.name_at.ensures in
    let t = it in omega (arith, t.0, t.1, t.2)

pub slice_bounds-begins_with-end : goal.slice_bounds-begins_with-end
slice_bounds-begins_with-end c =
    let it : (NameAs c.args.list.now c.loop-at.at (At c.in-At.start c.in-At.end)) = subst (NameAs _ c.loop-at.at) c.in-At.is c.name_at.ensures in
    let t = it in omega (arith, t.0, t.1, t.2)

pub returns-then-begins_with : goal.returns-then-begins_with
returns-then-begins_with c =
    let it : (NameAs c.args.list.now c.loop-at.at (At c.in-At.start c.in-At.end)) = subst (NameAs _ c.loop-at.at) c.in-At.is c.name_at.ensures in
    left_shown c.loop-at.invariant c.loop-at-test.true it c.begins_with.ensures c.if-begins_with.true

pub loop-at-smaller : goal.loop-at-smaller
loop-at-smaller c =
    let it : (NameAs c.args.list.now c.loop-at.at (At c.in-At.start c.in-At.end)) = subst (NameAs _ c.loop-at.at) c.in-At.is c.name_at.ensures in
    let t = it in
    omega (arith, t.0, t.1, t.2, c.loop-at-test.true)

pub loop-at-preserved : goal.loop-at-preserved
loop-at-preserved c =
    let it : (NameAs c.args.list.now c.loop-at.at (At c.in-At.start c.in-At.end)) = subst (NameAs _ c.loop-at.at) c.in-At.is c.name_at.ensures in
    left_on c.loop-at.invariant c.loop-at-test.true it c.begins_with.ensures c.if-begins_with.false

pub returns : goal.returns
returns c = left-none c.loop-at.invariant c.loop-at-test.false
