-- `judge::empty_scope` meets its contract: a part is empty where it ends at its start.
use Rattle.judge.proofs.Scopes.{no_scope}
use Rattle.judge.proofs.empty_scope.Goals as goal

pub returns : goal.returns
returns c = no_scope _ _ _ c.value_at-p.ensures
