-- `reader::field_at` meets its contract: what the cursor tells, with the places where the field's parts lie.
use mathlib.Core.Path.{refl}
use native.Mathlib.Omega.{arith}
use Rattle.reader.specs.Says.{Placed}
use Rattle.reader.proofs.Parts.{says_past, says_field, says_torn, says_end}
use Rattle.reader.proofs.field_at.Goals as goal

pub returns-then-s-at : goal.returns-then-s-at
returns-then-s-at c = says_past _ _ c.if-s-at.true

pub overflow_add-next : goal.overflow_add-next
unfolding Placed
overflow_add-next c =
    let n = c.next in
    omega (arith, (says_field _ _ refl n.ensures.0 c.in-Field.is n.ensures.1).1.within)

pub returns-in-Field : goal.returns-in-Field
returns-in-Field c = let n = c.next in says_field _ _ refl n.ensures.0 c.in-Field.is n.ensures.1

pub returns-in-Torn : goal.returns-in-Torn
returns-in-Torn c = says_torn _ _ refl c.next.ensures.0 c.in-Torn.is

pub returns-in-End : goal.returns-in-End
returns-in-End c = says_end _ _ refl c.next.ensures.0 c.in-End.is
