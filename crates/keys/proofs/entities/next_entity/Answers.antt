-- `entities::next_entity` meets its contract, by what stands at the cursor.
use native.Mathlib.Omega.{arith}
use Rattle.fields.proofs.Took.{moved}
use Rattle.keys.proofs.Elements.{at_element, at_other, at_torn, at_end_lem}
use Rattle.keys.proofs.entities.next_entity.Goals as goal

pub overflow_add-result : goal.overflow_add-result
overflow_add-result c = let m = moved c.in-Field.is c.next.ensures.1 in omega arith

pub returns-then-tag-eq1 : goal.returns-then-tag-eq1
returns-then-tag-eq1 c =
    let n = c.next.ensures in
    at_element _ n.0 n.1 c.requires c.in-Field.is c.if-tag-eq1.true

pub returns-else-tag-eq1 : goal.returns-else-tag-eq1
returns-else-tag-eq1 c =
    let n = c.next.ensures in
    at_other _ n.0 n.1 c.requires c.in-Field.is c.if-tag-eq1.false

pub returns-in-Torn : goal.returns-in-Torn
returns-in-Torn c =
    let n = c.next.ensures in
    at_torn _ n.0 n.1 c.requires c.in-Torn.is

pub returns-in-End : goal.returns-in-End
returns-in-End c =
    let n = c.next.ensures in
    at_end_lem _ n.0 n.1 c.requires c.in-End.is
