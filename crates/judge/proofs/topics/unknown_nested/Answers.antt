-- `topics::unknown_nested` meets its contract: the topic within the first field is lent as the name.
use native.Mathlib.Omega.{arith}
use Prim.Native.Nat.{◌+◌, ◌≤◌}
use lib.ListN.{length}
use Rattle.fields.proofs.Took.{within-part}
use Rattle.keys.proofs.Fields.{lent_nested, none_nested, nested_short}
use Rattle.find.proofs.Queries.{unknown-lent}
use Rattle.judge.proofs.topics.unknown_nested.Goals as goal

pub overflow_add-end : goal.overflow_add-end
overflow_add-end c =
    let within : c.in-Part.start + c.in-Part.len ≤ length c.args.rec.now = omega (arith, within-part c.in-Part.is c.field.ensures.1, c.value_at-p.ensures.2) in
    omega (arith, within)

pub slice_bounds-unknown_name-end : goal.slice_bounds-unknown_name-end
slice_bounds-unknown_name-end c =
    let within : c.in-Part.start + c.in-Part.len ≤ length c.args.rec.now = omega (arith, within-part c.in-Part.is c.field.ensures.1, c.value_at-p.ensures.2) in
    omega (arith, within)

pub unknown_name-requires : goal.unknown_name-requires
unknown_name-requires c =
    (c.requires.0, nested_short _ _ _ _ c.value_at-p.ensures _ c.field.ensures.0 c.in-Part.is 255 c.requires.2)

pub returns-in-Part : goal.returns-in-Part
returns-in-Part c =
    unknown-lent _ (lent_nested _ _ _ _ c.value_at-p.ensures _ c.field.ensures.0 c.in-Part.is) c.unknown_name.ensures

pub returns-in-Missing : goal.returns-in-Missing
returns-in-Missing c =
    unknown-lent _ (none_nested _ _ _ _ c.value_at-p.ensures _ c.field.ensures.0 c.in-Missing.is) c.unknown_name-in-Missing.ensures
