use mathlib.Core.Path.{ap}
use native.Mathlib.Omega.{arith}
use lib.ListN.{length}
use Rattle.short_histories.proofs.Written.{weight, position_inside, rest_below, size-next, nothing_left}
use Rattle.short_histories.proofs.history_size.Goals as goal

pub loop-left-init : goal.loop-left-init
loop-left-init c = (omega arith, c.requires.4, omega arith, omega arith)

pub overflow_sub-left : goal.overflow_sub-left
overflow_sub-left c = omega (arith, c.loop-left-test.true)

pub power-p-requires : goal.power-p-requires
power-p-requires c = (c.requires.2, omega (arith, c.loop-left.invariant.0, c.requires.3))

pub nonzero_div-i : goal.nonzero_div-i
nonzero_div-i c =
    omega (arith, weight c.args.s.now c.args.n c.requires.1 c.loop-left-test.true c.loop-left.invariant.1 c.power-p.ensures)

pub record_at-part-requires : goal.record_at-part-requires
record_at-part-requires c =
    position_inside c.args.s.now c.args.n c.requires.1 c.loop-left-test.true c.loop-left.invariant.1 c.power-p.ensures c.requires.0

pub overflow_sub-size : goal.overflow_sub-size
overflow_sub-size c = c.record_at-part.ensures.ordered

pub overflow_add-size : goal.overflow_add-size
overflow_add-size c =
    omega (arith, c.record_at-part.ensures.short, c.loop-left.invariant.3, c.loop-left.invariant.0, c.requires.3)

pub nonzero_rem-i : goal.nonzero_rem-i
nonzero_rem-i c =
    omega (arith, weight c.args.s.now c.args.n c.requires.1 c.loop-left-test.true c.loop-left.invariant.1 c.power-p.ensures)

pub loop-left-smaller : goal.loop-left-smaller
loop-left-smaller c = omega (arith, c.loop-left-test.true)

pub loop-left-preserved : goal.loop-left-preserved
loop-left-preserved c =
    let d = c.record_at-part.ensures in
    let next = size-next c.args.s.now c.args.n c.requires.1 c.loop-left-test.true c.loop-left.invariant.1 c.power-p.ensures d in (
      omega (arith, c.loop-left.invariant.0),
      rest_below c.args.s.now c.args.n c.requires.1 c.loop-left-test.true c.loop-left.invariant.1 c.power-p.ensures,
      omega (arith, next, c.loop-left.invariant.2),
      omega (arith, d.short, c.loop-left.invariant.3, c.loop-left.invariant.0, c.loop-left-test.true),
    )

pub returns : goal.returns
returns c =
    let a = c.args in
    omega (arith, c.loop-left.invariant.2, ap length (nothing_left a.s.now a.n c.loop-left.i c.loop-left-test.false))
