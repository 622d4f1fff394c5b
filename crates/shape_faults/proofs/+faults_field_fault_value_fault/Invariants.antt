-- `shape_faults::faults`, `field_fault` and `value_fault` meet their contracts. The invariant of the loop: what is wrong with the fields still
-- to come, after what came, is what is wrong with all. The calls end, since within an element no value is a run.
use Prim.Native.Nat.{◌+◌, ◌-◌, ◌≤◌}
use mathlib.Core.Path.{◌≡◌}
use mathlib.Core.Bool.{cond}
use lib.ListN.{length}
use Rattle.model.specs.Shape.{start, run_fault}
use Rattle.shapes.specs.Table.{rows_from}
use Rattle.fields.specs.Fields.{fields_from}
use Rattle.shape_faults.specs.Walk.{prior_key, PriorIn, before_in, check_at}
use Rattle.shape_faults.proofs.+faults_field_fault_value_fault.Given as goal

abbrev pub decreases-faults : goal.decreases-faults
decreases-faults l = cond l.inner 0 3 + 2

abbrev pub decreases-field_fault : goal.decreases-field_fault
decreases-field_fault l = cond l.inner 0 3 + 1

abbrev pub decreases-value_fault : goal.decreases-value_fault
decreases-value_fault l = cond l.inner 0 3

abbrev pub invariant-faults-loop-tag : goal.invariant-faults-loop-tag
invariant-faults-loop-tag l =
    (l.c.at ≤ l.c.to) × (l.c.to ≤ length l.s) × PriorIn l.s l.w.prior × (l.w.count ≤ l.c.at)
    × (run_fault (check_at l.inner (prior_key l.s l.prior)) (rows_from l.base) (before_in l.s l.w) (fields_from l.s l.c)
    ≡ run_fault (check_at l.inner (prior_key l.s l.prior)) (rows_from l.base) start (fields_from l.s l.initial.c))

abbrev pub decreases-faults-loop-tag : goal.decreases-faults-loop-tag
decreases-faults-loop-tag l = l.c.to - l.c.at
