use native.Mathlib.Omega.{arith}
use Rattle.records.proofs.Bodies.{body-step, body_end}
use Rattle.records.proofs.body_length.Goals as goal

pub overflow_cast-n : goal.overflow_cast-n
overflow_cast-n c = omega (arith, c.type_inv.lengths c.loop-i.i)

pub overflow_add-n : goal.overflow_add-n
overflow_add-n c = omega (arith, c.type_inv.lengths c.loop-i.i)

pub overflow_add-n-in-loop-i : goal.overflow_add-n-in-loop-i
overflow_add-n-in-loop-i c = omega (arith, body-step c.args.lengths.now c.loop-i.i c.loop-i-test.true)

pub loop-i-preserved : goal.loop-i-preserved
loop-i-preserved c = omega (arith, body-step c.args.lengths.now c.loop-i.i c.loop-i-test.true)

pub returns : goal.returns
returns c = omega (arith, body_end c.args.lengths.now c.loop-i.i c.loop-i-test.false)
