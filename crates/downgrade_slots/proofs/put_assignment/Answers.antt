-- `downgrade_slots::put_assignment` meets its contract: the head and the four fields are written one after the other.
use native.Mathlib.Omega.{arith}
use Rattle.downgrade_slots.proofs.Records.{assignment_fits, first_fits, second_fits, third_fits, fourth_fits, assignment-put}
use Rattle.downgrade_slots.proofs.put_assignment.Goals as goal

pub overflow_add-first : goal.overflow_add-first
overflow_add-first c =
    omega (arith, assignment_fits c.args.name.now c.args.number.now c.args.node.now c.args.out.now _ c.requires)

pub overflow_add-second : goal.overflow_add-second
overflow_add-second c =
    omega (arith, assignment_fits c.args.name.now c.args.number.now c.args.node.now c.args.out.now _ c.requires)

pub overflow_add-second-2 : goal.overflow_add-second-2
overflow_add-second-2 c =
    omega (arith, assignment_fits c.args.name.now c.args.number.now c.args.node.now c.args.out.now _ c.requires)

pub overflow_add-third : goal.overflow_add-third
overflow_add-third c =
    omega (arith, assignment_fits c.args.name.now c.args.number.now c.args.node.now c.args.out.now _ c.requires)

pub overflow_add-third-2 : goal.overflow_add-third-2
overflow_add-third-2 c =
    omega (arith, assignment_fits c.args.name.now c.args.number.now c.args.node.now c.args.out.now _ c.requires)

pub overflow_add-fourth : goal.overflow_add-fourth
overflow_add-fourth c =
    omega (arith, assignment_fits c.args.name.now c.args.number.now c.args.node.now c.args.out.now _ c.requires)

pub overflow_add-fourth-2 : goal.overflow_add-fourth-2
overflow_add-fourth-2 c =
    omega (arith, assignment_fits c.args.name.now c.args.number.now c.args.node.now c.args.out.now _ c.requires)

pub overflow_add-fourth-3 : goal.overflow_add-fourth-3
overflow_add-fourth-3 c =
    omega (arith, assignment_fits c.args.name.now c.args.number.now c.args.node.now c.args.out.now _ c.requires)

pub put_head-requires : goal.put_head-requires
put_head-requires c =
    omega (arith, assignment_fits c.args.name.now c.args.number.now c.args.node.now c.args.out.now _ c.requires)

pub put_field-requires : goal.put_field-requires
put_field-requires c =
    first_fits _ _ _ c.args.out.now _ c.requires c.put_head.ensures

pub put_field-requires-2 : goal.put_field-requires-2
put_field-requires-2 c =
    second_fits _ _ _ c.args.out.now _ c.requires c.put_head.ensures c.put_field.ensures

pub put_field-requires-3 : goal.put_field-requires-3
put_field-requires-3 c =
    third_fits _ _ _ c.args.out.now _ c.requires c.put_head.ensures c.put_field.ensures c.put_field-2.ensures

pub put_field-requires-4 : goal.put_field-requires-4
put_field-requires-4 c =
    fourth_fits _ _ _ c.args.out.now _ c.requires c.put_head.ensures c.put_field.ensures c.put_field-2.ensures
    c.put_field-3.ensures

pub overflow_add-result : goal.overflow_add-result
overflow_add-result c =
    omega (arith, assignment_fits c.args.name.now c.args.number.now c.args.node.now c.args.out.now _ c.requires)

pub returns : goal.returns
returns c =
    assignment-put _ _ _ c.args.out.now _ c.requires c.put_head.ensures c.put_field.ensures c.put_field-2.ensures
    c.put_field-3.ensures c.put_field-4.ensures
