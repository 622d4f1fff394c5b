-- `downgrade_brokers::gone_tag` meets its contract.
use mathlib.Core.Path.{sym, ap, ◌∙◌}
use mathlib.Core.Bool.{cond}
use Rattle.downgrade_brokers.proofs.gone_tag.Goals as goal

pub returns-then-is_under : goal.returns-then-is_under
returns-then-is_under c = sym (ap (λ b. cond b 11 0) (sym c.is_under.ensures ∙ c.if-is_under.true))

pub returns : goal.returns
returns c = sym (ap (λ b. cond b 11 0) (sym c.is_under.ensures ∙ c.if-is_under.false))
