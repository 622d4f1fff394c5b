use native.Mathlib.Omega.{arith}
use Rattle.short_histories.proofs.Lengths.{left-start, none_left, of_length, longer}
use Rattle.short_histories.proofs.find_history.Goals as goal

pub loop-len-init : goal.loop-len-init
loop-len-init c = left-start c.args.n c.args.number

pub power-p-requires : goal.power-p-requires
power-p-requires c = (c.requires, c.loop-len-test.true)

pub returns-then-i-p : goal.returns-then-i-p
returns-then-i-p c =
    of_length c.args.n c.args.number c.loop-len.invariant c.loop-len-test.true c.power-p.ensures c.if-i-p.true

pub overflow_add-len : goal.overflow_add-len
overflow_add-len c = omega (arith, c.loop-len-test.true)

pub loop-len-smaller : goal.loop-len-smaller
loop-len-smaller c = omega (arith, c.loop-len-test.true)

pub loop-len-preserved : goal.loop-len-preserved
loop-len-preserved c =
    longer c.args.n c.args.number c.loop-len.invariant c.loop-len-test.true c.power-p.ensures c.if-i-p.false

pub returns : goal.returns
returns c = none_left c.args.n c.args.number c.loop-len.invariant c.loop-len-test.false
