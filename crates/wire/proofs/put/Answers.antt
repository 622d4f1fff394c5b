use mathlib.Core.Path.{sym}
use native.Mathlib.Omega.{arith}
use Rattle.model.specs.Number.{bytes}
use Rattle.laws.specs.Numbers.{length-bytes}
use Rattle.wire.proofs.Numbers.{bytes-step, take-bytes}
use Rattle.wire.proofs.Laid.{laid_none, laid-step}
use Rattle.wire.proofs.put.Goals as goal

pub loop-i-init : goal.loop-i-init
loop-i-init c =
    let a = c.args in
    (laid_none a.s.now a.at (bytes a.width a.n) a.width (length-bytes _ _), sym (take-bytes a.width a.n))

pub loop-i-preserved : goal.loop-i-preserved
loop-i-preserved c =
    let l = c.loop-i in
    let a = c.args in
    let all = bytes a.width a.n in
    let b = bytes-step a.width a.n l.i l.rest (omega arith) (omega arith) l.invariant.1 in
    (rw l.invariant.0 (laid-step a.s.now a.at all a.width l.i _ (length-bytes _ _) (omega arith) (omega arith) (omega arith) b.0), b.1)
