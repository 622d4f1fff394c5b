-- `name_marks::fits` meets its contract, by the pattern.
use Rattle.name_marks.proofs.fits.Goals as goal

pub returns-then-literal : goal.returns-then-literal
returns-then-literal c = rw c.if-literal.true c.same.ensures

pub returns : goal.returns
returns c = rw c.if-literal.false c.begins_with.ensures
