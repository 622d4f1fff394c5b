use mathlib.Core.Path.{refl}
use native.Mathlib.Omega.{arith}
use Rattle.test_hex_lines.proofs.next_line.Goals as goal

pub loop-turns-init : goal.loop-turns-init
loop-turns-init c = (refl, refl, omega (arith, c.begin-line.ensures.0))

pub shape_of-bytes-then-at-end : goal.shape_of-bytes-then-at-end
shape_of-bytes-then-at-end c = c.loop-turns.invariant.0

pub shape_of-chunk-then-at-end : goal.shape_of-chunk-then-at-end
shape_of-chunk-then-at-end c = omega (arith, c.refill-rest.auto.chunk, c.loop-turns.invariant.1)

pub returns-then-at-end : goal.returns-then-at-end
returns-then-at-end c = (omega (arith, c.start.ensures.3), omega (arith, c.start.ensures.0), omega (arith, c.start.ensures.1))

pub bounds-chunk-at : goal.bounds-chunk-at
bounds-chunk-at c =
    omega (arith, c.refill-rest.ensures.0, c.refill-rest.ensures.1, c.if-at-end.false)

pub take_byte-line-requires : goal.take_byte-line-requires
take_byte-line-requires c = c.loop-turns.invariant.2

pub overflow_add-result : goal.overflow_add-result
overflow_add-result c =
    omega (arith, c.refill-rest.ensures.0, c.refill-rest.ensures.1, c.if-at-end.false, c.refill-rest.auto.chunk, c.loop-turns.invariant.1, c.well_formed)

pub shape_of-bytes-then-line : goal.shape_of-bytes-then-line
shape_of-bytes-then-line c = omega (arith, c.take_byte-line.auto.bytes, c.loop-turns.invariant.0)

pub shape_of-chunk-then-line : goal.shape_of-chunk-then-line
shape_of-chunk-then-line c =
    omega (arith, c.refill-rest.auto.chunk, c.loop-turns.invariant.1)

pub returns-then-line : goal.returns-then-line
returns-then-line c =
    (c.take_byte-line.ensures.len_in_bounds, omega (arith, c.refill-rest.ensures.0, c.if-at-end.false), c.refill-rest.ensures.1)

pub overflow_add-at : goal.overflow_add-at
overflow_add-at c =
    omega (arith, c.refill-rest.ensures.0, c.refill-rest.ensures.1, c.if-at-end.false, c.refill-rest.auto.chunk, c.loop-turns.invariant.1, c.well_formed)

pub loop-turns-preserved : goal.loop-turns-preserved
loop-turns-preserved c =
    (omega (arith, c.take_byte-line.auto.bytes, c.loop-turns.invariant.0), omega (arith, c.refill-rest.auto.chunk, c.loop-turns.invariant.1), c.take_byte-line.ensures.len_in_bounds)

pub shape_of-bytes : goal.shape_of-bytes
shape_of-bytes c = c.loop-turns.invariant.0

pub shape_of-chunk : goal.shape_of-chunk
shape_of-chunk c = c.loop-turns.invariant.1

pub returns : goal.returns
returns c = (omega (arith, c.start-2.ensures.3), omega (arith, c.start-2.ensures.0), omega (arith, c.start-2.ensures.1))
