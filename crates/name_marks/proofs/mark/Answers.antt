use mathlib.Core.Path.{subst}
use native.Mathlib.Omega.{arith}
use Rattle.names.specs.Lists.{NameAs}
use Rattle.names.specs.declared.Name.TheVariants.{At}
use Rattle.name_marks.proofs.Marking.{marking_start, marking_length, marking_end, marking_whole, marking_fits, marking_unfit, marking_on}
use Rattle.name_marks.proofs.mark.Goals as goal

pub loop-at-init : goal.loop-at-init
loop-at-init c = marking_start _ _ _ c.requires.0

pub name_at-requires : goal.name_at-requires
name_at-requires c = c.loop-at-test.true

pub shape_of-out-in-Torn : goal.shape_of-out-in-Torn
shape_of-out-in-Torn c = marking_length c.loop-at.invariant

pub returns-in-Torn : goal.returns-in-Torn
returns-in-Torn c =
    absurd (marking_whole c.loop-at.invariant c.loop-at-test.true (subst (NameAs _ c.loop-at.at) c.in-Torn.is c.name_at.ensures))

pub slice_bounds-fits-count : goal.slice_bounds-fits-count
slice_bounds-fits-count c =
    let it : (NameAs c.args.list.now c.loop-at.at (At c.in-At.start c.in-At.end)) = subst (NameAs _ c.loop-at.at) c.in-At.is c.name_at.ensures in
    let t = it in omega (arith, t.0, t.1, t.2)

pub slice_bounds-fits-start : goal.slice_bounds-fits-start
slice_bounds-fits-start c =
    let it : (NameAs c.args.list.now c.loop-at.at (At c.in-At.start c.in-At.end)) = subst (NameAs _ c.loop-at.at) c.in-At.is c.name_at.ensures in
    let t = it in omega (arith, t.0, t.1, t.2)

pub slice_bounds-fits-end : goal.slice_bounds-fits-end
slice_bounds-fits-end c =
    let it : (NameAs c.args.list.now c.loop-at.at (At c.in-At.start c.in-At.end)) = subst (NameAs _ c.loop-at.at) c.in-At.is c.name_at.ensures in
    let t = it in omega (arith, t.0, t.1, t.2)

pub shape_of-out-then-not-fits : goal.shape_of-out-then-not-fits
shape_of-out-then-not-fits c = marking_length c.loop-at.invariant

pub returns-then-not-fits : goal.returns-then-not-fits
returns-then-not-fits c =
    let it : (NameAs c.args.list.now c.loop-at.at (At c.in-At.start c.in-At.end)) = subst (NameAs _ c.loop-at.at) c.in-At.is c.name_at.ensures in
    marking_unfit c.loop-at.invariant c.loop-at-test.true it c.fits.ensures c.if-not-fits.true-raw

pub overflow_mul-n : goal.overflow_mul-n
overflow_mul-n c =
    let p = c.loop-at.invariant.place in
    omega (arith, p.room, c.loop-at-test.true)

pub put-requires : goal.put-requires
put-requires c =
    let it : (NameAs c.args.list.now c.loop-at.at (At c.in-At.start c.in-At.end)) = subst (NameAs _ c.loop-at.at) c.in-At.is c.name_at.ensures in
    marking_fits c.loop-at.invariant c.loop-at-test.true it c.requires.1

pub overflow_add-n : goal.overflow_add-n
overflow_add-n c =
    let p = c.loop-at.invariant.place in
    omega (arith, p.room, c.loop-at-test.true)

pub loop-at-smaller : goal.loop-at-smaller
loop-at-smaller c =
    let it : (NameAs c.args.list.now c.loop-at.at (At c.in-At.start c.in-At.end)) = subst (NameAs _ c.loop-at.at) c.in-At.is c.name_at.ensures in
    let t = it in
    omega (arith, t.0, t.1, t.2, c.loop-at-test.true)

pub loop-at-preserved : goal.loop-at-preserved
loop-at-preserved c =
    let it : (NameAs c.args.list.now c.loop-at.at (At c.in-At.start c.in-At.end)) = subst (NameAs _ c.loop-at.at) c.in-At.is c.name_at.ensures in
    marking_on c.loop-at.invariant c.loop-at-test.true it c.fits.ensures c.requires.1 c.if-not-fits.false-raw _ c.put.ensures

pub shape_of-out : goal.shape_of-out
shape_of-out c = marking_length c.loop-at.invariant

pub returns : goal.returns
returns c = marking_end c.loop-at.invariant c.loop-at-test.false
