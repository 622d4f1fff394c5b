use native.Mathlib.Omega.{arith}
use Rattle.wire.proofs.Laid.{down_step}
use Rattle.wire.proofs.shift_down.Goals as goal

pub loop-i-preserved : goal.loop-i-preserved
loop-i-preserved c =
    let a = c.args in
    rw c.loop-i.invariant (down_step a.w.now a.from a.to c.loop-i.i (omega arith) (omega arith))
