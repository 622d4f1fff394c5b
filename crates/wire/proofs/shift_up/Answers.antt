use native.Mathlib.Omega.{arith}
use Rattle.wire.proofs.Laid.{up_step}
use Rattle.wire.proofs.shift_up.Goals as goal

pub loop-i-preserved : goal.loop-i-preserved
loop-i-preserved c =
    let a = c.args in
    rw c.loop-i.invariant (up_step a.w.now a.from a.to a.n c.loop-i.i (omega arith) (omega arith) (omega arith) (omega arith))
