-- `shape_faults::given_faults` meets its contract. The invariant: what is wrong with the fields still to come, after what came, is what is
-- wrong with all.
use Prim.Native.Nat.{◌-◌, ◌≤◌}
use mathlib.Core.Path.{◌≡◌}
use mathlib.Core.Bool.{false}
use mathlib.Core.Option.{none}
use lib.ListN.{length}
use Rattle.model.specs.Record.{gathered}
use Rattle.model.specs.Shape
use Rattle.model.specs.Shape.{run_fault}
use Rattle.shapes.specs.Table.{rows_from}
use Rattle.shape_faults.specs.Walk.{PriorIn, before_in, check_at}
use Rattle.shape_faults.proofs.Gathered.{gathered_from}
use Rattle.shape_faults.proofs.given_faults.Given as goal

abbrev pub invariant-loop-i : goal.invariant-loop-i
invariant-loop-i l =
    (l.i ≤ length l.tags) × (l.i ≤ length l.lengths) × (l.start ≤ length l.values) × PriorIn l.values l.w.prior × (l.w.count ≤ l.i)
    × (run_fault (check_at false none) (rows_from l.base) (before_in l.values l.w) (gathered_from l.tags l.lengths l.values l.i l.start)
    ≡ run_fault (check_at false none) (rows_from l.base) Shape.start (gathered l.tags l.lengths l.values))

abbrev pub decreases-loop-i : goal.decreases-loop-i
decreases-loop-i l = length l.tags - l.i
