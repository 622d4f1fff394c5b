use mathlib.Core.Path.{refl, ◌∙◌}
use mathlib.Core.Bool.{false}
use native.Mathlib.Omega.{arith}
use Rattle.shape_faults.proofs.Walks.{begun_in, begun-count, passed-count}
use Rattle.shape_faults.proofs.Runs.{field_fits, on_done, on_torn, on_fault, on_field, on_begun}
use Rattle.shape_faults.proofs.Gathered.{no_length, value_cut, next_field, lengths-left, values-left, nothing_left}
use Rattle.shape_faults.proofs.given_faults.Goals as goal

pub loop-i-init : goal.loop-i-init
loop-i-init c =
    let a = c.args in
    let e = c.begin-w.ensures in
    (omega arith, omega arith, omega arith, begun_in a.values.now e, omega (arith, begun-count a.values.now e), on_begun _ _ a.values.now e _)

pub returns-then-lengths-i : goal.returns-then-lengths-i
returns-then-lengths-i c =
    let a = c.args in
    let l = c.loop-i in
    on_torn _ _ _ (no_length a.tags.now a.lengths.now a.values.now l.i l.start c.loop-i-test.true c.if-lengths-i.true) ∙ l.invariant.5

pub overflow_cast-len : goal.overflow_cast-len
overflow_cast-len c = omega (arith, c.type_inv.lengths c.loop-i.i)

pub returns-then-values-start : goal.returns-then-values-start
returns-then-values-start c =
    let a = c.args in
    let l = c.loop-i in
    on_torn _ _ _ (value_cut a.tags.now a.lengths.now a.values.now l.i l.start c.loop-i-test.true c.if-lengths-i.false _ refl c.if-values-start.true) ∙ l.invariant.5

pub field_fault-f-requires : goal.field_fault-f-requires
field_fault-f-requires c =
    (c.requires.0, c.requires.1, omega arith, c.loop-i.invariant.3, rw c.no_key.ensures (omega arith))

pub returns-then-f-ne0 : goal.returns-then-f-ne0
returns-then-f-ne0 c =
    let a = c.args in
    let l = c.loop-i in
    on_fault _ _ _ (next_field a.tags.now a.lengths.now a.values.now l.i l.start c.loop-i-test.true c.if-lengths-i.false _ refl
    _ c.size-tag.ensures.0 l.invariant.2 c.if-values-start.false) c.field_fault-f.ensures c.if-f-ne0.true ∙ l.invariant.5

pub walk_past-w-requires : goal.walk_past-w-requires
walk_past-w-requires c =
    (c.requires.0, field_fits _ c.requires.1 _ _ _ c.field_fault-f.ensures c.if-f-ne0.false, omega arith, omega arith)

pub overflow_add-start : goal.overflow_add-start
overflow_add-start c = omega (arith, c.well_formed)

pub overflow_add-i : goal.overflow_add-i
overflow_add-i c = omega (arith, c.well_formed)

pub loop-i-preserved : goal.loop-i-preserved
loop-i-preserved c =
    let a = c.args in
    let l = c.loop-i in
    let q = passed-count _ _ _ _ c.walk_past-w.ensures.0 in (
      omega arith,
      omega arith,
      omega arith,
      c.walk_past-w.ensures.1,
      omega arith,
      on_field _ c.requires.1 _ _ _ c.field_fault-f.ensures c.if-f-ne0.false
          (next_field a.tags.now a.lengths.now a.values.now l.i l.start c.loop-i-test.true c.if-lengths-i.false _ refl
          _ c.size-tag.ensures.0 l.invariant.2 c.if-values-start.false) c.walk_past-w.ensures.0 ∙ l.invariant.5,
    )

pub returns-then-i-lengths : goal.returns-then-i-lengths
returns-then-i-lengths c =
    let a = c.args in
    let l = c.loop-i in
    on_torn _ _ _ (lengths-left a.tags.now a.lengths.now a.values.now l.i l.start c.loop-i-test.false c.if-i-lengths.true) ∙ l.invariant.5

pub returns-then-start-values : goal.returns-then-start-values
returns-then-start-values c =
    let a = c.args in
    let l = c.loop-i in
    on_torn _ _ _ (values-left a.tags.now a.lengths.now a.values.now l.i l.start c.loop-i-test.false c.if-i-lengths.false c.if-start-values.true) ∙ l.invariant.5

pub end_fault-requires : goal.end_fault-requires
end_fault-requires c = c.requires

pub returns : goal.returns
returns c =
    let a = c.args in
    let l = c.loop-i in
    c.end_fault.ensures
    ∙ on_done _ _ _ (nothing_left a.tags.now a.lengths.now a.values.now l.i l.start c.loop-i-test.false c.if-i-lengths.false c.if-start-values.false)
    ∙ l.invariant.5
