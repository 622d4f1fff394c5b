-- `values::same_value` meets its contract: the two parts are lent, and compared.
use Rattle.keys.proofs.Fields.{same-values}
use Rattle.keys.proofs.values.same_value.Goals as goal

pub returns : goal.returns
returns c = same-values _ _ _ _ _ _ _ c.value_at-p.ensures c.value_at-q.ensures c.same.ensures
