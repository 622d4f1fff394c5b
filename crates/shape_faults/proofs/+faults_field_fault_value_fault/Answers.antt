use mathlib.Core.Path.{◌∙◌}
use native.Mathlib.Omega.{arith}
use borrow.Fn.PlainCycle.{is}
use Rattle.fields.proofs.Took.{took, tore, ended, moved}
use Rattle.shape_faults.proofs.Walks.{begun_in, begun-count, prior_key_lem, prior_in_lem, passed-count}
use Rattle.shape_faults.proofs.Values.{run_is_base, value_inner, value_leaf, value-run, inner_falls}
use Rattle.shape_faults.proofs.Runs.{row-there, row_fits, is_row, field_tag, field-value, field-count, field_fits, on_done, on_torn, on_fault, on_field, on_begun}
use Rattle.shape_faults.proofs.+faults_field_fault_value_fault.Goals as goal

pub faults-loop-tag-init : goal.faults-loop-tag-init
faults-loop-tag-init t c =
    let p = c.requires in
    let s = c.args.s.now in
    let e = c.begin-w.ensures in
    (p.2.0, p.2.1, begun_in s e, omega (arith, begun-count s e), on_begun _ _ s e _)

pub faults-next-requires : goal.faults-next-requires
faults-next-requires t c = (c.loop-tag.invariant.0, c.loop-tag.invariant.1)

pub faults-field_fault-f-requires : goal.faults-field_fault-f-requires
faults-field_fault-f-requires t c =
    let m = moved c.in-Field.is c.next.ensures.1 in
    let p = c.requires in
    (omega arith, (p.0, p.1, omega arith, c.loop-tag.invariant.2, p.3))

pub faults-returns-then-f-ne0 : goal.faults-returns-then-f-ne0
faults-returns-then-f-ne0 t c =
    on_fault _ _ _ (took _ c.next.ensures.0 c.in-Field.is) c.field_fault-f.ensures c.if-f-ne0.true
    ∙ c.loop-tag.invariant.4

pub faults-walk_past-w-requires : goal.faults-walk_past-w-requires
faults-walk_past-w-requires t c =
    let m = moved c.in-Field.is c.next.ensures.1 in
    let p = c.requires in
    (p.0, field_fits _ p.1 _ _ _ c.field_fault-f.ensures c.if-f-ne0.false, omega arith, omega arith)

pub faults-loop-tag-smaller : goal.faults-loop-tag-smaller
faults-loop-tag-smaller t c = let m = moved c.in-Field.is c.next.ensures.1 in omega arith

pub faults-loop-tag-preserved : goal.faults-loop-tag-preserved
faults-loop-tag-preserved t c =
    let m = moved c.in-Field.is c.next.ensures.1 in
    let q = passed-count _ _ _ _ c.walk_past-w.ensures.0 in (
      omega arith,
      omega arith,
      c.walk_past-w.ensures.1,
      omega arith,
      on_field _ c.requires.1 _ _ _ c.field_fault-f.ensures c.if-f-ne0.false (took _ c.next.ensures.0 c.in-Field.is)
          c.walk_past-w.ensures.0 ∙ c.loop-tag.invariant.4,
    )

pub faults-returns-in-Torn : goal.faults-returns-in-Torn
faults-returns-in-Torn t c = on_torn _ _ _ (tore _ c.next.ensures.0 c.in-Torn.is) ∙ c.loop-tag.invariant.4

pub faults-end_fault-requires : goal.faults-end_fault-requires
faults-end_fault-requires t c =
    let p = c.requires in
    (p.0, p.1)

pub faults-returns-in-End : goal.faults-returns-in-End
faults-returns-in-End t c = c.end_fault.ensures ∙ on_done _ _ _ (ended _ c.next.ensures.0 c.in-End.is) ∙ c.loop-tag.invariant.4

pub field_fault-tag_fault-f-requires : goal.field_fault-tag_fault-f-requires
field_fault-tag_fault-f-requires t c =
    (c.requires.0, c.requires.1)

pub field_fault-returns-then-f-ne0 : goal.field_fault-returns-then-f-ne0
field_fault-returns-then-f-ne0 t c = field_tag _ _ _ _ _ c.tag_fault-f.ensures c.if-f-ne0.true

pub field_fault-overflow_add-base : goal.field_fault-overflow_add-base
field_fault-overflow_add-base t c = omega (arith, row_fits c.requires.1 _ _ c.tag_fault-f.ensures c.if-f-ne0.false)

pub field_fault-row_at-row-requires : goal.field_fault-row_at-row-requires
field_fault-row_at-row-requires t c =
    let p = c.requires in
    (p.0, row_fits p.1 _ _ c.tag_fault-f.ensures c.if-f-ne0.false)

pub field_fault-value_fault-g-requires : goal.field_fault-value_fault-g-requires
field_fault-value_fault-g-requires t c =
    let p = c.requires in
    let a = c.args in (
      omega arith,
      (
        p.0,
        is_row p.1 _ _ c.tag_fault-f.ensures c.if-f-ne0.false c.row_at-row.ensures,
        omega arith,
        p.2,
        p.4,
        prior_in_lem a.w a.tag a.s.now c.prior_of.result c.prior_of.ensures p.3,
      ),
    )

pub field_fault-returns-then-g-ne0 : goal.field_fault-returns-then-g-ne0
field_fault-returns-then-g-ne0 t c =
    let a = c.args in
    let k = prior_key_lem a.w a.tag a.s.now c.prior_of.result c.prior_of.ensures in
    field-value _ _ _ _ _ c.tag_fault-f.ensures c.if-f-ne0.false (row-there c.requires.1 _ _ c.tag_fault-f.ensures c.if-f-ne0.false)
    c.row_at-row.ensures k c.value_fault-g.ensures c.if-g-ne0.true

pub field_fault-returns : goal.field_fault-returns
field_fault-returns t c =
    let a = c.args in
    let k = prior_key_lem a.w a.tag a.s.now c.prior_of.result c.prior_of.ensures in
    field-count _ _ _ _ _ c.tag_fault-f.ensures c.if-f-ne0.false (row-there c.requires.1 _ _ c.tag_fault-f.ensures c.if-f-ne0.false)
    c.row_at-row.ensures k c.value_fault-g.ensures c.if-g-ne0.false c.many_in.ensures c.count_of.ensures c.count_fault.ensures

pub value_fault-leaf_fault-requires : goal.value_fault-leaf_fault-requires
value_fault-leaf_fault-requires t c =
    let p = c.requires in
    (p.4, p.2, p.3)

pub value_fault-returns-then-inner : goal.value_fault-returns-then-inner
value_fault-returns-then-inner t c =
    value_inner _ _ _ _ c.form_in-form.ensures c.size_in-size.ensures c.if-inner.true c.leaf_fault.ensures

pub value_fault-leaf_fault-requires-then-form-lt-NESTED : goal.value_fault-leaf_fault-requires-then-form-lt-NESTED
value_fault-leaf_fault-requires-then-form-lt-NESTED t c =
    let p = c.requires in
    (p.5, p.2, p.3)

pub value_fault-returns-then-form-lt-NESTED : goal.value_fault-returns-then-form-lt-NESTED
value_fault-returns-then-form-lt-NESTED t c =
    value_leaf _ _ _ _ c.form_in-form.ensures c.size_in-size.ensures c.if-inner.false c.if-form-lt-NESTED.true c.leaf_fault-then-form-lt-NESTED.ensures

pub value_fault-faults-requires : goal.value_fault-faults-requires
value_fault-faults-requires t c =
    let p = c.requires in (
      inner_falls c.decreases c.if-inner.false,
      (p.0, run_is_base _ p.1 c.form_in-form.ensures c.size_in-size.ensures c.if-form-lt-NESTED.false, (p.2, p.3), p.5),
    )

pub value_fault-returns : goal.value_fault-returns
value_fault-returns t c =
    let p = c.requires in
    value-run _ _ _ _ c.form_in-form.ensures c.size_in-size.ensures p.1 c.if-inner.false c.if-form-lt-NESTED.false c.faults.ensures
