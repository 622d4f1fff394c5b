use mathlib.Core.Path.{◌≡◌, refl}
use native.Mathlib.Omega.{arith}
use Rattle.keys.proofs.Fields.{half-more, half_fits, half_is}
use Rattle.keys.proofs.values.half_of.Goals as goal

pub loop-i-init : goal.loop-i-init
loop-i-init c = (omega arith, refl)

pub overflow_mul-h : goal.overflow_mul-h
overflow_mul-h c = let l = c.loop-i in record { fits = half_fits _ _ _ l.invariant.1 c.loop-i-test.true (omega arith) }

pub loop-i-preserved : goal.loop-i-preserved
loop-i-preserved c = (omega arith, half-more _ _ c.loop-i.invariant.1)

pub returns : goal.returns
returns c =
    let l = c.loop-i in
    let e : l.i ≡ c.args.width = omega arith in
    half_is _ _ c.requires.0 (rw (← e) l.invariant.1)
