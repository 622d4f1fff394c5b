-- `entities::compare_names` meets its contract, by which of the two names are there.
use Prim.Native.Nat.{◌+◌}
use mathlib.Core.Path.{ap₂, ◌∙◌}
use native.Mathlib.Omega.{arith}
use Rattle.model.specs.Order.{compare_bytes}
use Rattle.fields.proofs.Took.{within-part}
use Rattle.keys.proofs.Found.{lent_slice, field-part, field-missing}
use Rattle.keys.proofs.Elements.{names_both, name_second, name_first, names-none}
use Rattle.keys.proofs.entities.compare_names.Goals as goal

pub overflow_add-end : goal.overflow_add-end
overflow_add-end c = let w = within-part c.in-Part.is c.field.ensures.1 in omega arith

pub overflow_add-to : goal.overflow_add-to
overflow_add-to c = let w = within-part c.in-Part-field.is c.field-in-Part.ensures.1 in omega arith

pub slice_bounds-compare-end : goal.slice_bounds-compare-end
slice_bounds-compare-end c = let w = within-part c.in-Part.is c.field.ensures.1 in omega arith

pub slice_bounds-compare-end-in-Part-field : goal.slice_bounds-compare-end-in-Part-field
slice_bounds-compare-end-in-Part-field c = let w = within-part c.in-Part-field.is c.field-in-Part.ensures.1 in omega arith

pub returns-in-Part-field : goal.returns-in-Part-field
returns-in-Part-field c =
    let a = c.args in
    let n = c.field.ensures in
    let m = c.field-in-Part.ensures in
    c.compare.ensures
    ∙ ap₂ compare_bytes (lent_slice a.a.now c.in-Part.start (c.in-Part.start + c.in-Part.len) (omega arith)) (lent_slice a.b.now c.in-Part-field.from (c.in-Part-field.from + c.in-Part-field.n) (omega arith))
    ∙ names_both _ _ _ _ (field-part _ _ _ n.0 c.in-Part.is) (field-part _ _ _ m.0 c.in-Part-field.is)

pub returns-in-Missing-field : goal.returns-in-Missing-field
returns-in-Missing-field c =
    let n = c.field.ensures in
    let m = c.field-in-Part.ensures in
    name_second _ _ _ (field-part _ _ _ n.0 c.in-Part.is) (field-missing _ _ _ m.0 c.in-Missing-field.is)

pub returns-in-Part-field-2 : goal.returns-in-Part-field-2
returns-in-Part-field-2 c =
    let n = c.field.ensures in
    let m = c.field-in-Missing.ensures in
    name_first _ _ _ (field-missing _ _ _ n.0 c.in-Missing.is) (field-part _ _ _ m.0 c.in-Part-field-2.is)

pub returns-in-Missing-field-2 : goal.returns-in-Missing-field-2
returns-in-Missing-field-2 c =
    let n = c.field.ensures in
    let m = c.field-in-Missing.ensures in
    names-none _ _ (field-missing _ _ _ n.0 c.in-Missing.is) (field-missing _ _ _ m.0 c.in-Missing-field-2.is)
