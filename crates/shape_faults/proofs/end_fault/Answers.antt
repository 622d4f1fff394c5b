-- `shape_faults::end_fault` meets its contract: the head of a shape's rows has its greatest required tag.
use native.Mathlib.Omega.{arith}
use Rattle.shapes.proofs.Columns.{base_fits}
use Rattle.shape_faults.proofs.Tags.{end_wrong, end_right}
use Rattle.shape_faults.proofs.end_fault.Goals as goal

pub row_at-requires : goal.row_at-requires
row_at-requires c = (c.requires.0, omega (arith, base_fits c.requires.1.shape c.requires.1.at))

pub returns-then-prior_in-last : goal.returns-then-prior_in-last
returns-then-prior_in-last c = end_wrong c.requires.1 _ _ _ c.row_at.ensures c.prior_in.ensures c.if-prior_in-last.true

pub returns : goal.returns
returns c = end_right c.requires.1 _ _ _ c.row_at.ensures c.prior_in.ensures c.if-prior_in-last.false
