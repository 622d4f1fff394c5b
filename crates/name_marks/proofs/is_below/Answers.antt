-- `name_marks::is_below` meets its contract, by what comparing says.
use mathlib.Core.Path.{refl}
use Rattle.name_marks.proofs.is_below.Goals as goal

pub returns-in-Less : goal.returns-in-Less
returns-in-Less c = rw (← c.compare.ensures, c.in-Less.is) refl

pub returns-in-Equal : goal.returns-in-Equal
returns-in-Equal c = rw (← c.compare.ensures, c.in-Equal.is) refl

pub returns-in-Greater : goal.returns-in-Greater
returns-in-Greater c = rw (← c.compare.ensures, c.in-Greater.is) refl
