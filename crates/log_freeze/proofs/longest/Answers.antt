use mathlib.Core.Path.{refl, sym, ◌∙◌}
use native.Mathlib.Omega.{arith}
use Rattle.log_freeze.proofs.Picks.{longer_empty, longer_holds, none-shorter}
use Rattle.log_freeze.proofs.longest.Goals as goal

pub overflow_add-i : goal.overflow_add-i
overflow_add-i c = omega (arith, c.requires.1)

pub loop-i-init : goal.loop-i-init
loop-i-init c = (omega arith, refl)

pub overflow_sub-i : goal.overflow_sub-i
overflow_sub-i c = omega (arith, c.loop-i-test.true)

pub offset_bounds-slots-i : goal.offset_bounds-slots-i
offset_bounds-slots-i c = omega (arith, c.loop-i.invariant.0, c.requires.1)

pub bounds-slots-i : goal.bounds-slots-i
bounds-slots-i c =
    omega (arith, c.loop-i-test.true, c.loop-i.invariant.0, c.requires.0, c.requires.1)

pub returns-then-v-ne0 : goal.returns-then-v-ne0
returns-then-v-ne0 c =
    sym (c.loop-i.invariant.1 ∙ longer_holds _ c.loop-i.i c.loop-i-test.true c.if-v-ne0.true)

pub loop-i-smaller : goal.loop-i-smaller
loop-i-smaller c = omega (arith, c.loop-i-test.true)

pub loop-i-preserved : goal.loop-i-preserved
loop-i-preserved c =
    (omega (arith, c.loop-i.invariant.0), c.loop-i.invariant.1 ∙ longer_empty _ c.loop-i.i c.loop-i-test.true c.if-v-ne0.false)

pub returns : goal.returns
returns c = sym (c.loop-i.invariant.1 ∙ none-shorter _ c.loop-i.i c.loop-i-test.false)
