-- `log_freeze::slot_value` meets its contract.
use Rattle.log_freeze.proofs.Picks.{frozen-value, thawed_value}
use Rattle.log_freeze.proofs.slot_value.Goals as goal

pub returns-then-number_at-eq1 : goal.returns-then-number_at-eq1
returns-then-number_at-eq1 c = frozen-value _ _ c.number_at.ensures c.if-number_at-eq1.true

pub returns : goal.returns
returns c = thawed_value _ _ c.number_at.ensures c.if-number_at-eq1.false
