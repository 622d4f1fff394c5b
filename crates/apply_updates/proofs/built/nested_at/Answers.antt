-- `built::nested_at` meets its contract: the field that `field` found in the partition's run is the value.
use native.Mathlib.Omega.{arith}
use Rattle.fields.proofs.Took.{within-part}
use Rattle.apply_updates.proofs.Drafting.{nested_part, nested_none}
use Rattle.apply_updates.proofs.built.nested_at.Goals as goal

pub overflow_add-result : goal.overflow_add-result
overflow_add-result c =
    omega (arith, within-part c.in-Part.is c.field.ensures.1, c.value_at-p.ensures.2)

pub returns-in-Part : goal.returns-in-Part
returns-in-Part c =
    let v = c.value_at-p in
    let a = c.args in
    nested_part a.rec.now v.result.start v.result.end v.ensures a.tag c.field.ensures c.in-Part.is

pub returns-in-Missing : goal.returns-in-Missing
returns-in-Missing c =
    let v = c.value_at-p in
    let a = c.args in
    nested_none a.rec.now v.result.start v.result.end v.ensures a.tag c.field.ensures c.in-Missing.is
