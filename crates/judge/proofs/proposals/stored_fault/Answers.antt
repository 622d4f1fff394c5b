-- `proposals::stored_fault` meets its contract: consumed, then withdrawn, then the approvals.
use Rattle.judge.proofs.Settled.{consumed, withdrawn, by_approvals}
use Rattle.judge.proofs.proposals.stored_fault.Goals as goal

pub returns-then-number_at-ne0 : goal.returns-then-number_at-ne0
returns-then-number_at-ne0 c = consumed _ _ c.number_at.ensures c.if-number_at-ne0.true

pub returns-then-number_at-eq1 : goal.returns-then-number_at-eq1
returns-then-number_at-eq1 c =
    withdrawn _ _ c.number_at.ensures c.if-number_at-ne0.false c.number_at-2.ensures c.if-number_at-eq1.true

pub returns : goal.returns
returns c =
    by_approvals _ _ c.number_at.ensures c.if-number_at-ne0.false c.number_at-2.ensures c.if-number_at-eq1.false c.unless.ensures c.extends.ensures
