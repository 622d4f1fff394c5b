use Prim.Native.Nat.{◌≤◌, ◌<◌}
use mathlib.Core.Path.{refl}
use native.Mathlib.Nat.{mod-lt}
use native.Mathlib.Omega.{arith}
use lib.Dec.{lit<}
use lib.ListN.{length}
use Rattle.test_answer_lines.proofs.Digests.{digest_step, digest_end}
use Rattle.test_answer_lines.proofs.digest.Goals as goal

pub loop-i-init : goal.loop-i-init
loop-i-init c = (omega arith, lit< tt, refl)

pub overflow_mul-n : goal.overflow_mul-n
overflow_mul-n c = omega (arith, c.loop-i.invariant.1)

pub overflow_add-n : goal.overflow_add-n
overflow_add-n c =
    let x : c.wide.result < 256 = omega (arith, c.shared_slice_known-1.given c.loop-i.i) in
    omega (arith, x, c.loop-i.invariant.1)

pub loop-i-preserved : goal.loop-i-preserved
loop-i-preserved c = let l = c.loop-i in
    (omega arith, mod-lt _ (lit< tt), digest_step _ _ _ _ _ c.loop-i-test.true c.wide.ensures l.invariant.2)

pub returns : goal.returns
returns c = let l = c.loop-i in
    let e : length c.args.bytes.now ≤ l.i = omega arith in digest_end _ _ _ _ e l.invariant.2
