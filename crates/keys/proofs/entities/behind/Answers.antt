-- `entities::behind` meets its contract: a type that comes first is no name.
use mathlib.Core.Path.{sym, ap}
use Rattle.model.specs.Run.{field}
use Rattle.keys.proofs.entities.behind.Goals as goal

pub returns-then-p-c : goal.returns-then-p-c
unfolding field
returns-then-p-c c =
    let f = c.requires.1.first c.if-p-c.true in
    ((f.1, c.requires.0.1), sym (ap (field 2) f.0))
