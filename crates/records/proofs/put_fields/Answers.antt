use mathlib.Core.Path.{refl, sym, ◌∙◌}
use native.Mathlib.Omega.{arith}
use Rattle.records.proofs.Bodies.{length-there, value_there, field_fits, rest_fits, left_after, field-written, all-written}
use Rattle.records.proofs.put_fields.Goals as goal

pub loop-i-init : goal.loop-i-init
loop-i-init c =
    (refl, omega arith, record { within = omega arith; whole = c.requires.whole; fits = c.requires.values_in_bounds }, refl)

pub offset_bounds-lengths-i : goal.offset_bounds-lengths-i
offset_bounds-lengths-i c = omega (arith, length-there c.loop-i.invariant.2 c.loop-i-test.true)

pub bounds-lengths-i : goal.bounds-lengths-i
bounds-lengths-i c = length-there c.loop-i.invariant.2 c.loop-i-test.true

pub overflow_cast-len : goal.overflow_cast-len
overflow_cast-len c = omega (arith, c.type_inv.lengths c.loop-i.i)

pub overflow_add-end : goal.overflow_add-end
overflow_add-end c = omega (arith, value_there c.loop-i.invariant.2 c.loop-i-test.true)

pub slice_bounds-put_field-end : goal.slice_bounds-put_field-end
slice_bounds-put_field-end c = omega (arith, value_there c.loop-i.invariant.2 c.loop-i-test.true)

pub put_field-requires : goal.put_field-requires
put_field-requires c = field_fits c.loop-i.invariant.2 c.loop-i-test.true

pub overflow_add-to : goal.overflow_add-to
overflow_add-to c =
    omega (arith, rest_fits c.loop-i.invariant.2 c.loop-i-test.true, c.well_formed)

pub overflow_add-to-in-loop-i : goal.overflow_add-to-in-loop-i
overflow_add-to-in-loop-i c =
    omega (arith, rest_fits c.loop-i.invariant.2 c.loop-i-test.true, c.well_formed)

pub overflow_add-i : goal.overflow_add-i
overflow_add-i c = omega (arith, c.well_formed)

pub loop-i-preserved : goal.loop-i-preserved
loop-i-preserved c =
    let l = c.loop-i.invariant in
    let h = c.loop-i-test.true in
    let p = c.put_field in
    (omega (arith, p.auto.out), omega arith, left_after l.2 h p.auto.out, field-written l.2 h p.ensures ∙ l.3)

pub shape_of-out : goal.shape_of-out
shape_of-out c = c.loop-i.invariant.0

pub returns : goal.returns
returns c =
    let a = c.args in
    let l = c.loop-i in
    sym (all-written a.tags.now a.lengths.now a.values.now l.i l.start c.loop-i-test.false l.out l.to) ∙ l.invariant.3
