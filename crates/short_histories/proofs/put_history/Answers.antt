use native.Mathlib.Omega.{arith}
use Rattle.records.proofs.Growing.{grow_start, grown_length, grown}
use Rattle.short_histories.proofs.Written.{rest_of, weight, position_inside, rest_below, record-room, place_fits, written_next, nothing_left}
use Rattle.short_histories.proofs.put_history.Goals as goal

pub loop-left-init : goal.loop-left-init
loop-left-init c =
    (omega arith, c.requires.4, grow_start c.args.out.now 0 (rest_of c.args.s.now c.args.n c.args.len c.args.index) (omega (arith, c.requires.5)))

pub overflow_sub-left : goal.overflow_sub-left
overflow_sub-left c = omega (arith, c.loop-left-test.true)

pub power-p-requires : goal.power-p-requires
power-p-requires c = (c.requires.2, omega (arith, c.loop-left.invariant.0, c.requires.3))

pub nonzero_div-i : goal.nonzero_div-i
nonzero_div-i c =
    omega (arith, weight c.args.s.now c.args.n c.requires.1 c.loop-left-test.true c.loop-left.invariant.1 c.power-p.ensures)

pub record_at-part-requires : goal.record_at-part-requires
record_at-part-requires c =
    position_inside c.args.s.now c.args.n c.requires.1 c.loop-left-test.true c.loop-left.invariant.1 c.power-p.ensures c.requires.0

pub slice_bounds-copy-count : goal.slice_bounds-copy-count
slice_bounds-copy-count c = c.record_at-part.ensures.ordered

pub slice_bounds-copy-start : goal.slice_bounds-copy-start
slice_bounds-copy-start c = omega (arith, c.record_at-part.ensures.ordered, c.record_at-part.ensures.within)

pub slice_bounds-copy-end : goal.slice_bounds-copy-end
slice_bounds-copy-end c = omega (arith, c.record_at-part.ensures.ordered, c.record_at-part.ensures.within)

pub copy-requires : goal.copy-requires
copy-requires c =
    record-room c.args.s.now c.args.n c.requires.1 c.loop-left-test.true c.loop-left.invariant.1 c.power-p.ensures c.record_at-part.ensures c.loop-left.invariant.2

pub overflow_sub-at : goal.overflow_sub-at
overflow_sub-at c = c.record_at-part.ensures.ordered

pub overflow_add-at : goal.overflow_add-at
overflow_add-at c =
    omega (arith, place_fits c.args.s.now c.args.n c.requires.1 c.loop-left-test.true c.loop-left.invariant.1 c.power-p.ensures c.record_at-part.ensures c.loop-left.invariant.2, c.ranges)

pub nonzero_rem-i : goal.nonzero_rem-i
nonzero_rem-i c =
    omega (arith, weight c.args.s.now c.args.n c.requires.1 c.loop-left-test.true c.loop-left.invariant.1 c.power-p.ensures)

pub loop-left-smaller : goal.loop-left-smaller
loop-left-smaller c = omega (arith, c.loop-left-test.true)

pub loop-left-preserved : goal.loop-left-preserved
loop-left-preserved c = (
  omega (arith, c.loop-left.invariant.0),
  rest_below c.args.s.now c.args.n c.requires.1 c.loop-left-test.true c.loop-left.invariant.1 c.power-p.ensures,
  written_next c.args.s.now c.args.n c.requires.1 c.loop-left-test.true c.loop-left.invariant.1 c.power-p.ensures c.record_at-part.ensures c.loop-left.invariant.2 c.copy.ensures,
)

pub shape_of-out : goal.shape_of-out
shape_of-out c = omega (arith, grown_length c.loop-left.invariant.2)

pub returns : goal.returns
returns c =
    let a = c.args in
    (grown c.loop-left.invariant.2 (nothing_left a.s.now a.n c.loop-left.i c.loop-left-test.false)).1
