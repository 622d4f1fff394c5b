use native.Mathlib.Omega.{arith}
use borrow.Author.Tests.{eqb-true}
use Rattle.shapes.proofs.Columns.{base_fits}
use Rattle.fields.proofs.Took.{took, ended, moved}
use Rattle.flat_faults.proofs.Flat.{not-false, never, fields_are, fits, begun, turn, end}
use Rattle.flat_faults.proofs.is_flat.Goals as goal

pub row_at-requires : goal.row_at-requires
row_at-requires c =
    let p = c.requires in
    (p.0, omega (arith, base_fits p.1.shape p.1.at))

pub loop-tag-init : goal.loop-tag-init
loop-tag-init c =
    let p = c.requires in
    (p.2.0, p.2.1, omega arith, begun _ _)

pub next-requires : goal.next-requires
next-requires c = (c.loop-tag.invariant.0, c.loop-tag.invariant.1)

pub overflow_add-end : goal.overflow_add-end
overflow_add-end c = let m = moved c.in-Field.is c.next.ensures.1 in omega (arith, c.loop-tag.invariant.1)

pub overflow_add-last : goal.overflow_add-last
overflow_add-last c = omega (arith, c.loop-tag.invariant.2)

pub returns-then-tag-last : goal.returns-then-tag-last
returns-then-tag-last c = never

pub returns-then-fields-tag : goal.returns-then-fields-tag
returns-then-fields-tag c = never

pub overflow_add-base : goal.overflow_add-base
overflow_add-base c =
    let p = c.requires in
    let e = fields_are _ c.row_at.ensures c.size_in-fields.ensures in
    omega (arith, fits p.1 e c.if-fields-tag.false)

pub row_at-row-requires : goal.row_at-row-requires
row_at-row-requires c =
    let p = c.requires in
    let e = fields_are _ c.row_at.ensures c.size_in-fields.ensures in
    (p.0, fits p.1 e c.if-fields-tag.false)

pub returns-then-many_in-gt1 : goal.returns-then-many_in-gt1
returns-then-many_in-gt1 c = never

pub is_right-requires : goal.is_right-requires
is_right-requires c =
    let m = moved c.in-Field.is c.next.ensures.1 in
    (omega arith, omega (arith, c.loop-tag.invariant.1))

pub returns-then-not-is_right : goal.returns-then-not-is_right
returns-then-not-is_right c = never

pub loop-tag-smaller : goal.loop-tag-smaller
loop-tag-smaller c =
    let m = moved c.in-Field.is c.next.ensures.1 in
    omega arith

pub loop-tag-preserved : goal.loop-tag-preserved
loop-tag-preserved c =
    let m = moved c.in-Field.is c.next.ensures.1 in
    let p = c.requires in
    let e = fields_are _ c.row_at.ensures c.size_in-fields.ensures in
    let once = c.many_in.ensures in (
      omega arith,
      omega (arith, c.loop-tag.invariant.1),
      omega arith,
      turn p.1 c.loop-tag.invariant.3 (took _ c.next.ensures.0 c.in-Field.is) c.if-tag-last.false
          (omega (arith, e, c.if-fields-tag.false)) c.row_at-row.ensures (omega (arith, once, c.if-many_in-gt1.false))
          (c.is_right.ensures (not-false _ c.if-not-is_right.false-raw)),
    )

pub returns-in-Torn : goal.returns-in-Torn
returns-in-Torn c = never

pub end_fault-requires : goal.end_fault-requires
end_fault-requires c =
    let p = c.requires in
    (p.0, p.1)

pub returns-in-End : goal.returns-in-End
returns-in-End c =
    let p = c.requires in
    λ h. end p.1 c.loop-tag.invariant.3 (ended _ c.next.ensures.0 c.in-End.is) c.end_fault.ensures (eqb-true _ 0 h)
