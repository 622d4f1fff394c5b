-- `access::field_number` meets its contract, by what was found.
use native.Mathlib.Omega.{arith}
use Rattle.fields.proofs.Took.{within-part}
use Rattle.access.specs.Access.{found_number, Below}
use Rattle.access.proofs.Body.{field-held}
use Rattle.access.proofs.Values.{number-missing, number_part_lem, number_other}
use Rattle.access.proofs.field_number.Goals as goal

pub returns-then-len-width : goal.returns-then-len-width
unfolding found_number Below
returns-then-len-width c =
    let f = field-held _ _ c.field_of.ensures in
    (number_other _ _ _ f.0 c.in-Part.is f.1 c.if-len-width.true, tt)

pub get-requires : goal.get-requires
get-requires c =
    let f = field-held _ _ c.field_of.ensures in
    let w = within-part c.in-Part.is f.1 in
    (c.requires, omega arith)

pub returns-else-len-width : goal.returns-else-len-width
unfolding found_number Below
returns-else-len-width c =
    let f = field-held _ _ c.field_of.ensures in
    let g = c.get.ensures in
    (number_part_lem _ _ _ f.0 c.in-Part.is f.1 _ c.if-len-width.false g.0, g.1)

pub returns-in-Missing : goal.returns-in-Missing
unfolding found_number Below
returns-in-Missing c = (number-missing _ _ _ (field-held _ _ c.field_of.ensures).0 c.in-Missing.is, tt)
