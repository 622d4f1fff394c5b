-- `shape_faults::tag_fault` meets its contract: the table's numbers say which tags there are, which required one stands before
-- a tag, and which may come again.
use native.Mathlib.Omega.{arith}
use Rattle.shapes.proofs.Columns.{base_fits}
use Rattle.shape_faults.proofs.Tags.{tag_zero, tag_past, tag_misses, tag_next, tag_again, tag_twice, tag_back, tag_fits}
use Rattle.shape_faults.proofs.tag_fault.Goals as goal

pub returns-then-tag-eq0 : goal.returns-then-tag-eq0
returns-then-tag-eq0 c = tag_zero c.requires.1 _ _ c.if-tag-eq0.true

pub row_at-requires : goal.row_at-requires
row_at-requires c =
    (c.requires.0, omega (arith, base_fits c.requires.1.shape c.requires.1.at))

pub returns-then-tag-size_in : goal.returns-then-tag-size_in
returns-then-tag-size_in c = tag_past c.requires.1 _ _ _ _ c.row_at.ensures c.size_in.ensures c.if-tag-size_in.true

pub overflow_add-base : goal.overflow_add-base
overflow_add-base c =
    omega (arith, tag_fits c.requires.1 0 _ _ _ c.row_at.ensures c.size_in.ensures c.if-tag-eq0.false c.if-tag-size_in.false)

pub row_at-row-requires : goal.row_at-row-requires
row_at-row-requires c =
    (c.requires.0, tag_fits c.requires.1 0 _ _ _ c.row_at.ensures c.size_in.ensures c.if-tag-eq0.false c.if-tag-size_in.false)

pub returns-then-prior_in-last : goal.returns-then-prior_in-last
returns-then-prior_in-last c =
    tag_misses c.requires.1 _ _ _ _ c.row_at.ensures c.size_in.ensures c.if-tag-eq0.false c.if-tag-size_in.false
    _ c.row_at-row.ensures _ c.if-last-tag.true c.prior_in.ensures c.if-prior_in-last.true

pub returns-then-last-tag : goal.returns-then-last-tag
returns-then-last-tag c =
    tag_next c.requires.1 _ _ _ _ c.row_at.ensures c.size_in.ensures c.if-tag-eq0.false c.if-tag-size_in.false
    _ c.row_at-row.ensures _ c.if-last-tag.true c.prior_in.ensures c.if-prior_in-last.false

pub returns-then-many_in-gt1 : goal.returns-then-many_in-gt1
returns-then-many_in-gt1 c =
    tag_again c.requires.1 _ _ _ _ c.row_at.ensures c.size_in.ensures c.if-tag-eq0.false c.if-tag-size_in.false
    _ c.row_at-row.ensures _ c.if-last-tag.false c.if-last-tag-2.true c.many_in.ensures c.if-many_in-gt1.true

pub returns-else-many_in-gt1 : goal.returns-else-many_in-gt1
returns-else-many_in-gt1 c =
    tag_twice c.requires.1 _ _ _ _ c.row_at.ensures c.size_in.ensures c.if-tag-eq0.false c.if-tag-size_in.false
    _ c.row_at-row.ensures _ c.if-last-tag.false c.if-last-tag-2.true c.many_in.ensures c.if-many_in-gt1.false

pub returns-else-last-tag-2 : goal.returns-else-last-tag-2
returns-else-last-tag-2 c =
    tag_back c.requires.1 _ _ _ _ c.row_at.ensures c.size_in.ensures c.if-tag-eq0.false c.if-tag-size_in.false
    _ c.row_at-row.ensures c.if-last-tag.false c.if-last-tag-2.false
