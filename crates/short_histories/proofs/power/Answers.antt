use mathlib.Core.Path.{sym}
use native.Mathlib.Nat.{pow-zero}
use native.Mathlib.Omega.{arith}
use Rattle.short_histories.proofs.Lengths.{power_turn, power_fits, power_done}
use Rattle.short_histories.proofs.power.Goals as goal

pub loop-i-init : goal.loop-i-init
loop-i-init c = (omega arith, sym (pow-zero c.args.n))

pub overflow_mul-p : goal.overflow_mul-p
overflow_mul-p c = omega (arith, power_fits c.args.n c.loop-i.i c.loop-i.invariant.1 c.requires.0 c.requires.1 c.loop-i-test.true)

pub overflow_add-i : goal.overflow_add-i
overflow_add-i c = omega (arith, c.loop-i-test.true, c.requires.1)

pub loop-i-smaller : goal.loop-i-smaller
loop-i-smaller c = omega (arith, c.loop-i-test.true)

pub loop-i-preserved : goal.loop-i-preserved
loop-i-preserved c = (omega (arith, c.loop-i-test.true), power_turn c.args.n c.loop-i.i c.loop-i.invariant.1)

pub returns : goal.returns
returns c = power_done c.args.n c.loop-i.i c.loop-i.invariant.1 c.loop-i.invariant.0 c.loop-i-test.false
