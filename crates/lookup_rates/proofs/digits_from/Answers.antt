use Prim.Native.Nat.{◌+◌, ◌*◌}
use mathlib.Core.Path.{ap}
use native.Mathlib.Omega.{arith}
use Rattle.lookup_rates.proofs.Digits.{spelt-start, is_end, high_end, low_digit, high_digit, too_high, spelt-more}
use Rattle.lookup_rates.proofs.digits_from.Goals as goal

pub loop-i-init : goal.loop-i-init
loop-i-init c = spelt-start _ _ c.requires

pub returns-then-d-lt48 : goal.returns-then-d-lt48
returns-then-d-lt48 c = low_digit c.loop-i.invariant c.loop-i-test.true c.if-d-lt48.true

pub returns-then-d-gt57 : goal.returns-then-d-gt57
returns-then-d-gt57 c = high_digit c.loop-i.invariant c.loop-i-test.true c.if-d-lt48.false c.if-d-gt57.true

pub returns-then-n-gt-MOST : goal.returns-then-n-gt-MOST
returns-then-n-gt-MOST c =
    too_high c.loop-i.invariant c.loop-i-test.true c.if-d-lt48.false c.if-d-gt57.false c.if-n-gt-MOST.true

pub overflow_mul-n : goal.overflow_mul-n
overflow_mul-n c = omega (arith, c.if-n-gt-MOST.false)

pub overflow_add-n : goal.overflow_add-n
overflow_add-n c = omega (arith, c.if-n-gt-MOST.false, c.wide.ensures, c.if-d-lt48.false, c.if-d-gt57.false)

pub loop-i-preserved : goal.loop-i-preserved
loop-i-preserved c =
    spelt-more c.loop-i.invariant c.loop-i-test.true c.if-d-lt48.false c.if-d-gt57.false (ap (λ x. c.loop-i.n * 10 + x) c.wide.ensures)

pub returns-then-n-lt-LIMIT : goal.returns-then-n-lt-LIMIT
returns-then-n-lt-LIMIT c = is_end c.loop-i.invariant c.loop-i-test.false c.if-n-lt-LIMIT.true

pub returns : goal.returns
returns c = high_end c.loop-i.invariant c.loop-i-test.false c.if-n-lt-LIMIT.false
