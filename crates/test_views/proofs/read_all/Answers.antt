use mathlib.Core.Path.{refl, sym}
use native.Mathlib.Omega.{arith}
use lib.Seq.{length-take-le}
use Rattle.test_views.proofs.read_all.Goals as goal

pub loop-place-init : goal.loop-place-init
loop-place-init c = (refl, refl, refl, refl)

pub shape_of-bytes-then-not-input : goal.shape_of-bytes-then-not-input
shape_of-bytes-then-not-input c = omega (arith, c.next_line-input.auto.bytes, c.loop-place.invariant.0)

pub shape_of-image-then-not-input : goal.shape_of-image-then-not-input
shape_of-image-then-not-input c = c.loop-place.invariant.1

pub shape_of-out-then-not-input : goal.shape_of-out-then-not-input
shape_of-out-then-not-input c = c.loop-place.invariant.2

pub shape_of-chunk-then-not-input : goal.shape_of-chunk-then-not-input
shape_of-chunk-then-not-input c =
    omega (arith, c.next_line-input.auto.chunk, c.loop-place.invariant.3)

pub slice_bounds-answer-end : goal.slice_bounds-answer-end
slice_bounds-answer-end c = c.next_line-input.ensures.0

pub slice_bounds-answer-end-in-loop-place : goal.slice_bounds-answer-end-in-loop-place
slice_bounds-answer-end-in-loop-place c = sym (length-take-le _ _ c.next_line-input.ensures.0)

pub loop-place-preserved : goal.loop-place-preserved
loop-place-preserved c = (
  omega (arith, c.next_line-input.auto.bytes, c.loop-place.invariant.0),
  omega (arith, c.answer.auto.image, c.loop-place.invariant.1),
  omega (arith, c.answer.auto.out, c.loop-place.invariant.2),
  omega (arith, c.next_line-input.auto.chunk, c.loop-place.invariant.3),
)

pub shape_of-bytes : goal.shape_of-bytes
shape_of-bytes c = c.loop-place.invariant.0

pub shape_of-image : goal.shape_of-image
shape_of-image c = c.loop-place.invariant.1

pub shape_of-out : goal.shape_of-out
shape_of-out c = c.loop-place.invariant.2

pub shape_of-chunk : goal.shape_of-chunk
shape_of-chunk c = c.loop-place.invariant.3
