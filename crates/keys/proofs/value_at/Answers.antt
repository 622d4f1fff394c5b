-- `keys::value_at` meets its contract: the field that `find` found is the value, and nothing is where it found none.
use native.Mathlib.Omega.{arith}
use Rattle.fields.proofs.Took.{within-part}
use Rattle.reader.proofs.Finds.{found-held}
use Rattle.keys.proofs.Found.{value-part, value-missing}
use Rattle.keys.proofs.value_at.Goals as goal

pub overflow_add-result : goal.overflow_add-result
overflow_add-result c =
    let a = c.args in
    let f = found-held a.s.now 3 a.tag c.find.ensures in
    let w = within-part c.in-Part.is f.1 in
    omega arith

pub returns-in-Part : goal.returns-in-Part
returns-in-Part c =
    let a = c.args in
    let f = found-held a.s.now 3 a.tag c.find.ensures in
    let w = within-part c.in-Part.is f.1 in
    (value-part a.s.now a.tag _ f.0 c.in-Part.is, omega arith, omega arith)

pub returns-in-Missing : goal.returns-in-Missing
returns-in-Missing c =
    let a = c.args in
    let f = found-held a.s.now 3 a.tag c.find.ensures in
    (value-missing a.s.now a.tag _ f.0 c.in-Missing.is, omega arith, omega arith)
