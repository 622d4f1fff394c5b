use mathlib.Core.Path.{sym, subst, ◌∙◌}
use native.Mathlib.Omega.{arith}
use Rattle.names.specs.Lists.{NameAs}
use Rattle.names.specs.declared.Name.TheVariants.{At}
use Rattle.names.proofs.Walks.{walked_start, walked_all, walked_unread, walked_torn, walked_fault, walked_name}
use Rattle.names.proofs.check.Goals as goal

pub loop-at-init : goal.loop-at-init
loop-at-init c = walked_start _ _ _

pub returns-then-most-n : goal.returns-then-most-n
returns-then-most-n c = walked_unread _ _ _ c.loop-at.invariant c.loop-at-test.true c.if-most-n.true

pub name_at-requires : goal.name_at-requires
name_at-requires c = c.loop-at-test.true

pub returns-in-Torn : goal.returns-in-Torn
returns-in-Torn c =
    walked_torn _ _ _ c.loop-at.invariant c.loop-at-test.true c.if-most-n.false (subst (NameAs _ c.loop-at.at) c.in-Torn.is c.name_at.ensures)

pub slice_bounds-name_fault-count : goal.slice_bounds-name_fault-count
slice_bounds-name_fault-count c =
    let it : (NameAs c.args.list.now c.loop-at.at (At c.in-At.from c.in-At.to)) = subst (NameAs _ c.loop-at.at) c.in-At.is c.name_at.ensures in
    let t = it in omega (arith, t.0, t.1, t.2)

pub slice_bounds-name_fault-start : goal.slice_bounds-name_fault-start
slice_bounds-name_fault-start c =
    let it : (NameAs c.args.list.now c.loop-at.at (At c.in-At.from c.in-At.to)) = subst (NameAs _ c.loop-at.at) c.in-At.is c.name_at.ensures in
    let t = it in omega (arith, t.0, t.1, t.2)

pub slice_bounds-name_fault-end : goal.slice_bounds-name_fault-end
slice_bounds-name_fault-end c =
    let it : (NameAs c.args.list.now c.loop-at.at (At c.in-At.from c.in-At.to)) = subst (NameAs _ c.loop-at.at) c.in-At.is c.name_at.ensures in
    let t = it in omega (arith, t.0, t.1, t.2)

pub slice_bounds-name_fault-count-in-At : goal.slice_bounds-name_fault-count-in-At
slice_bounds-name_fault-count-in-At c = let w = c.loop-at.invariant in omega (arith, w.forward, w.within)

pub slice_bounds-name_fault-start-in-At : goal.slice_bounds-name_fault-start-in-At
slice_bounds-name_fault-start-in-At c = let w = c.loop-at.invariant in omega (arith, w.forward, w.within)

pub slice_bounds-name_fault-end-in-At : goal.slice_bounds-name_fault-end-in-At
slice_bounds-name_fault-end-in-At c = let w = c.loop-at.invariant in omega (arith, w.forward, w.within)

pub returns-then-f-ne0 : goal.returns-then-f-ne0
returns-then-f-ne0 c =
    let it : (NameAs c.args.list.now c.loop-at.at (At c.in-At.from c.in-At.to)) = subst (NameAs _ c.loop-at.at) c.in-At.is c.name_at.ensures in
    walked_fault _ _ _ c.loop-at.invariant c.loop-at-test.true c.if-most-n.false it _ c.name_fault-f.ensures c.if-f-ne0.true

pub overflow_add-n : goal.overflow_add-n
overflow_add-n c =
    omega (arith, c.if-most-n.false, c.ranges.most)

pub loop-at-smaller : goal.loop-at-smaller
loop-at-smaller c =
    let it : (NameAs c.args.list.now c.loop-at.at (At c.in-At.from c.in-At.to)) = subst (NameAs _ c.loop-at.at) c.in-At.is c.name_at.ensures in
    let t = it in
    omega (arith, t.0, t.1, t.2, c.loop-at-test.true)

pub loop-at-preserved : goal.loop-at-preserved
loop-at-preserved c =
    let it : (NameAs c.args.list.now c.loop-at.at (At c.in-At.from c.in-At.to)) = subst (NameAs _ c.loop-at.at) c.in-At.is c.name_at.ensures in
    walked_name _ _ _ c.loop-at.invariant c.loop-at-test.true c.if-most-n.false it (sym c.if-f-ne0.false ∙ c.name_fault-f.ensures)

pub returns : goal.returns
returns c = walked_all _ _ _ c.loop-at.invariant c.loop-at-test.false
