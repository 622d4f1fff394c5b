-- `quota::to_bits` meets its contract: a value that equals itself is a number.
use Rattle.std.proofs.Common.{sym, ◌∙◌}
use Rattle.quota.specs.Quota.{bits_of}
use Rattle.quota.proofs.Values.{eq_self}
use Rattle.quota.proofs.to_bits.Goals as goal

pub float_to_bits-result : goal.float_to_bits-result
float_to_bits-result c = rw (sym (eq_self _) ∙ c.if-value.true) tt

pub returns-then-value : goal.returns-then-value
unfolding bits_of
returns-then-value c = rw (c.if-quota.true, sym (eq_self _) ∙ c.if-value.true)

pub returns-else-value : goal.returns-else-value
unfolding bits_of
returns-else-value c = rw (c.if-quota.true, sym (eq_self _) ∙ c.if-value.false)

pub returns-else-quota : goal.returns-else-quota
unfolding bits_of
returns-else-quota c = rw c.if-quota.false
