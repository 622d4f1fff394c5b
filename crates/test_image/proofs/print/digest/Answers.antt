use native.Mathlib.Omega.{arith}
use Rattle.test_image.proofs.print.digest.Goals as goal

pub overflow_add-n : goal.overflow_add-n
overflow_add-n c = omega (arith, c.size.ensures.1)
