-- `apply::is_later` meets its contract: places are in the order of the values.
use mathlib.Core.Path.{ap₂}
use lib.Dec.{ltb}
use Rattle.apply.proofs.is_later.Goals as goal

pub returns : goal.returns
returns c = ap₂ ltb c.place.ensures c.place-2.ensures
