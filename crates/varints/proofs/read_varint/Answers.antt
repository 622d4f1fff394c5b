use Prim.Native.Nat.{◌-◌, ◌<◌}
use native.Mathlib.Omega.{arith}
use Rattle.varints.proofs.Turns.{left-start, ended, fifth_low, fifth_said, light, adds, last, onwards}
use Rattle.varints.proofs.read_varint.Goals as goal

pub loop-more-init : goal.loop-more-init
loop-more-init c = left-start c.args.s.now c.args.at c.requires

pub returns-then-to-s : goal.returns-then-to-s
returns-then-to-s c = ended c.loop-more.invariant c.if-to-s.true

pub bounds-s-to : goal.bounds-s-to
bounds-s-to c = omega (arith, c.loop-more.invariant.within, c.if-to-s.false)

pub overflow_add-to : goal.overflow_add-to
overflow_add-to c = omega (arith, c.loop-more.invariant.within, c.if-to-s.false)

pub overflow_mul-result : goal.overflow_mul-result
overflow_mul-result c =
    omega (arith, adds c.loop-more.invariant c.loop-more-test.true c.wide-b.result c.if-b-lt128.true, light c.loop-more.invariant c.loop-more-test.true)

pub overflow_add-result : goal.overflow_add-result
overflow_add-result c =
    omega (arith, adds c.loop-more.invariant c.loop-more-test.true c.wide-b.result c.if-b-lt128.true, light c.loop-more.invariant c.loop-more-test.true)

pub returns-then-b-lt128 : goal.returns-then-b-lt128
returns-then-b-lt128 c =
    last c.loop-more.invariant c.loop-more-test.true (omega (arith, c.loop-more.invariant.within, c.if-to-s.false)) c.wide-b.ensures c.if-b-lt128.true

pub overflow_mul-n : goal.overflow_mul-n
overflow_mul-n c =
    let x : c.wide-b.result < 256 = omega (arith, c.shared_slice_known-1.given c.loop-more.to) in
    omega (arith, adds c.loop-more.invariant c.loop-more-test.true (c.wide-b.result - 128) (omega (arith, x, c.if-b-lt128.false)), light c.loop-more.invariant c.loop-more-test.true)

pub overflow_add-n : goal.overflow_add-n
overflow_add-n c =
    let x : c.wide-b.result < 256 = omega (arith, c.shared_slice_known-1.given c.loop-more.to) in
    omega (arith, adds c.loop-more.invariant c.loop-more-test.true (c.wide-b.result - 128) (omega (arith, x, c.if-b-lt128.false)), light c.loop-more.invariant c.loop-more-test.true)

pub overflow_mul-weight : goal.overflow_mul-weight
overflow_mul-weight c =
    omega (arith, light c.loop-more.invariant c.loop-more-test.true)

pub overflow_sub-more : goal.overflow_sub-more
overflow_sub-more c = omega (arith, c.loop-more-test.true)

pub loop-more-smaller : goal.loop-more-smaller
loop-more-smaller c = omega (arith, c.loop-more-test.true)

pub loop-more-preserved : goal.loop-more-preserved
loop-more-preserved c =
    let x : c.wide-b.result < 256 = omega (arith, c.shared_slice_known-1.given c.loop-more.to) in
    onwards c.loop-more.invariant c.loop-more-test.true (omega (arith, c.loop-more.invariant.within, c.if-to-s.false)) c.wide-b.ensures c.if-b-lt128.false x

pub read_fifth-requires : goal.read_fifth-requires
read_fifth-requires c = (c.loop-more.invariant.within, fifth_low c.loop-more.invariant c.loop-more-test.false)

pub returns : goal.returns
returns c = fifth_said c.loop-more.invariant c.loop-more-test.false c.read_fifth.result c.read_fifth.ensures
