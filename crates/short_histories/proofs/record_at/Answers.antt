use native.Mathlib.Omega.{arith}
use Rattle.model.specs.Number.{AreBytes}
use Rattle.keys.proofs.Keys.{known_bytes}
use Rattle.short_histories.proofs.Places.{stands-start, header_fits, record-fits, passed, stands-there}
use Rattle.short_histories.proofs.record_at.Goals as goal

pub loop-left-init : goal.loop-left-init
loop-left-init c = stands-start c.args.s.now c.args.position c.requires

pub overflow_add-at : goal.overflow_add-at
overflow_add-at c =
    omega (arith, header_fits c.args.s.now c.args.position c.loop-left.invariant, c.ranges)

pub overflow_add-at-in-loop-left : goal.overflow_add-at-in-loop-left
overflow_add-at-in-loop-left c =
    omega (arith, header_fits c.args.s.now c.args.position c.loop-left.invariant, c.ranges)

pub get16-requires : goal.get16-requires
get16-requires c = header_fits c.args.s.now c.args.position c.loop-left.invariant

pub overflow_add-at-in-loop-left-2 : goal.overflow_add-at-in-loop-left-2
overflow_add-at-in-loop-left-2 c =
    omega (arith, record-fits c.args.s.now c.args.position c.loop-left.invariant c.get16.ensures.0, c.ranges)

pub overflow_sub-left : goal.overflow_sub-left
overflow_sub-left c = omega (arith, c.loop-left-test.true)

pub loop-left-smaller : goal.loop-left-smaller
loop-left-smaller c = omega (arith, c.loop-left-test.true)

pub loop-left-preserved : goal.loop-left-preserved
loop-left-preserved c =
    passed c.args.s.now c.args.position c.loop-left.invariant c.get16.ensures.0 c.loop-left-test.true

pub overflow_add-end : goal.overflow_add-end
overflow_add-end c =
    omega (arith, header_fits c.args.s.now c.args.position c.loop-left.invariant, c.ranges)

pub overflow_add-at-2 : goal.overflow_add-at-2
overflow_add-at-2 c =
    omega (arith, header_fits c.args.s.now c.args.position c.loop-left.invariant, c.ranges)

pub get16-requires-2 : goal.get16-requires-2
get16-requires-2 c = header_fits c.args.s.now c.args.position c.loop-left.invariant

pub overflow_add-end-2 : goal.overflow_add-end-2
overflow_add-end-2 c =
    omega (arith, record-fits c.args.s.now c.args.position c.loop-left.invariant c.get16-2.ensures.0, c.ranges)

pub returns : goal.returns
returns c =
    let bytes_in : AreBytes c.args.s.now = known_bytes c.args.s.now (λ i. omega (arith, c.type_inv.s i)) in
    stands-there c.args.s.now c.args.position c.loop-left.invariant c.get16-2.ensures.0 bytes_in c.get16-2.ensures.1 c.loop-left-test.false
