use mathlib.Core.Path.{refl, sym}
use native.Mathlib.Omega.{arith}
use lib.Seq.{length-take-le}
use Rattle.test_log_freeze.proofs.read_all.Goals as goal

pub loop-turns-init : goal.loop-turns-init
loop-turns-init c = (refl, refl, refl)

pub shape_of-bytes-then-not-input : goal.shape_of-bytes-then-not-input
shape_of-bytes-then-not-input c = omega (arith, c.next_line-input.auto.bytes, c.loop-turns.invariant.0)

pub shape_of-work-then-not-input : goal.shape_of-work-then-not-input
shape_of-work-then-not-input c = c.loop-turns.invariant.1

pub shape_of-chunk-then-not-input : goal.shape_of-chunk-then-not-input
shape_of-chunk-then-not-input c =
    omega (arith, c.next_line-input.auto.chunk, c.loop-turns.invariant.2)

pub slice_bounds-answer-end : goal.slice_bounds-answer-end
slice_bounds-answer-end c = c.next_line-input.ensures.0

pub slice_bounds-answer-end-in-loop-turns : goal.slice_bounds-answer-end-in-loop-turns
slice_bounds-answer-end-in-loop-turns c = sym (length-take-le _ _ c.next_line-input.ensures.0)

pub loop-turns-preserved : goal.loop-turns-preserved
loop-turns-preserved c = (
  omega (arith, c.next_line-input.auto.bytes, c.loop-turns.invariant.0),
  omega (arith, c.answer.auto.work, c.loop-turns.invariant.1),
  omega (arith, c.next_line-input.auto.chunk, c.loop-turns.invariant.2),
)

pub shape_of-bytes : goal.shape_of-bytes
shape_of-bytes c = c.loop-turns.invariant.0

pub shape_of-work : goal.shape_of-work
shape_of-work c = c.loop-turns.invariant.1

pub shape_of-chunk : goal.shape_of-chunk
shape_of-chunk c = c.loop-turns.invariant.2
