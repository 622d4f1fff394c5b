-- `entities::part_of` meets its contract: the type that `field` found, and nothing where it found none.
use native.Mathlib.Omega.{arith}
use Rattle.fields.proofs.Took.{within-part}
use Rattle.keys.proofs.Found.{value-part, value-missing}
use Rattle.keys.proofs.First.{type_held, type_first}
use Rattle.keys.proofs.entities.part_of.Goals as goal

pub overflow_add-result : goal.overflow_add-result
overflow_add-result c =
    let w = within-part c.in-Part.is (type_held _ _ c.requires c.field.ensures).1 in
    omega arith

pub returns-in-Part : goal.returns-in-Part
returns-in-Part c =
    let pre = c.requires in
    let given = c.in-Part.is in
    let f = type_held _ _ pre c.field.ensures in
    let w = within-part given f.1 in
    record {
      holds = value-part _ _ _ f.0 given;
      inside = (omega arith, omega arith);
      first = λ h. (type_first _ _ pre c.field.ensures given h, w);
    }

pub returns-in-Missing : goal.returns-in-Missing
returns-in-Missing c =
    let f = type_held _ _ c.requires c.field.ensures in
    record { holds = value-missing _ _ _ f.0 c.in-Missing.is; inside = (omega arith, omega arith); first = λ h. absurd (omega arith) }
