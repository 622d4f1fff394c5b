-- `quota::from_bits` meets its contract, by whether the bits spell a number.
use Rattle.std.proofs.Common.{sym, ◌∙◌}
use Rattle.quota.specs.Quota.{quota_of}
use Rattle.quota.proofs.from_bits.Goals as goal

pub returns-then-is_nan : goal.returns-then-is_nan
unfolding quota_of
returns-then-is_nan c = rw (sym c.is_nan.ensures ∙ c.if-is_nan.true)

pub float_from_bits-result : goal.float_from_bits-result
float_from_bits-result c = rw (sym c.is_nan.ensures ∙ c.if-is_nan.false) tt

pub returns : goal.returns
unfolding quota_of
returns c = rw (sym c.is_nan.ensures ∙ c.if-is_nan.false)
