-- `lookups::find_named` meets its contract: the first field is lent, and sought.
use mathlib.Core.Path.{refl}
use Rattle.keys.proofs.Fields.{lent-value}
use Rattle.find.proofs.Queries.{lent_query, lent-place}
use Rattle.judge.proofs.lookups.find_named.Goals as goal

pub find-requires : goal.find-requires
find-requires c =
    (c.requires.0, lent_query _ (lent-value _ _ _ _ c.value_at-p.ensures) refl c.requires.2)

pub returns : goal.returns
returns c = lent-place _ (lent-value _ _ _ _ c.value_at-p.ensures) refl _ c.find.ensures
