-- `values::or_then` meets its contract.
use Rattle.laws.specs.Choice.{or_then-first}
use Rattle.judge.proofs.values.or_then.Goals as goal

pub returns : goal.returns
returns c = or_then-first _ _ c.if-first-eq0.false
