-- `quota::whole_number` meets its contract, by its four tests.
use lib.Ieee.{of_bits, neg}
use Rattle.quota.proofs.Wholes.{no_number, minus_zero, below_range, above_range, in_range}
use Rattle.quota.proofs.whole_number.Goals as goal

pub returns-then-not-quota : goal.returns-then-not-quota
returns-then-not-quota c = no_number _ c.if-not-quota.true

pub returns-then-quota-eq-MINUS_ZERO : goal.returns-then-quota-eq-MINUS_ZERO
returns-then-quota-eq-MINUS_ZERO c = minus_zero _ c.if-not-quota.false c.if-quota-eq-MINUS_ZERO.true

pub returns-then-not-value : goal.returns-then-not-value
unfolding of_bits neg
returns-then-not-value c = below_range _ c.if-not-quota.false c.if-quota-eq-MINUS_ZERO.false c.if-not-value.true-raw

pub returns-then-not-value-2 : goal.returns-then-not-value-2
unfolding of_bits neg
returns-then-not-value-2 c =
    above_range _ c.if-not-quota.false c.if-quota-eq-MINUS_ZERO.false c.if-not-value.false-raw c.if-not-value-2.true-raw

pub returns : goal.returns
unfolding of_bits neg
returns c =
    in_range _ c.if-not-quota.false c.if-quota-eq-MINUS_ZERO.false c.if-not-value.false-raw c.if-not-value-2.false-raw _ c.exactly.ensures
