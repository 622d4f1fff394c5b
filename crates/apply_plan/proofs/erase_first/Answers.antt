-- `erase_first` meets its contract.
use mathlib.Core.Path.{refl}
use Rattle.keys.proofs.Fields.{lent-value}
use Rattle.find.proofs.Queries.{lent_query}
use Rattle.apply_plan.proofs.Arms.{drop-lent}
use Rattle.apply_plan.proofs.erase_first.Goals as goal

pub erase_named-requires : goal.erase_named-requires
erase_named-requires c =
    (c.requires.0, lent_query _ (lent-value _ _ _ _ c.value_at-p.ensures) refl c.requires.2)

pub returns : goal.returns
returns c = drop-lent _ (lent-value _ _ _ _ c.value_at-p.ensures) c.erase_named.ensures
