use native.Mathlib.Omega.{arith}
use Rattle.wire.proofs.Laid.{paste-step}
use Rattle.wire.proofs.copy.Goals as goal

pub loop-i-preserved : goal.loop-i-preserved
loop-i-preserved c =
    let a = c.args in
    rw c.loop-i.invariant (paste-step a.dst.now a.at a.src.now c.loop-i.i (omega arith) (omega arith))
