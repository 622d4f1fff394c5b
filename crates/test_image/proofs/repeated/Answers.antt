-- `test_image::repeated` stays in its bytes.
use native.Mathlib.Nat.{mod-lt}
use native.Mathlib.Omega.{arith}
use Rattle.test_image.proofs.repeated.Goals as goal

pub bounds-bytes-at : goal.bounds-bytes-at
bounds-bytes-at c = mod-lt _ (omega (arith, c.if-bytes-eq0.false))
