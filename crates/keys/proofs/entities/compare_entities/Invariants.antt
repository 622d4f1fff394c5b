-- `entities::compare_entities` meets its contract. The invariant: the order of the elements still to come is the order of all.
use Prim.Native.Nat.{◌-◌}
use mathlib.Core.Path.{◌≡◌}
use Rattle.model.specs.Run.{values}
use Rattle.laws_records.specs.Fields.{Ascending}
use Rattle.fields.specs.Fields.{fields_from, Inside}
use Rattle.keys.specs.Keys.{run_in}
use Rattle.keys.specs.Entities.{compare_entities}
use Rattle.keys.proofs.entities.compare_entities.Given as goal

abbrev pub invariant-loop-start : goal.invariant-loop-start
invariant-loop-start l =
    Inside l.a l.c × Inside l.b l.d × Ascending 1 (fields_from l.a l.c) × Ascending 1 (fields_from l.b l.d) ×
    (compare_entities (values 1 (fields_from l.a l.c)) (values 1 (fields_from l.b l.d)) ≡ compare_entities (values 1 (run_in l.a)) (values 1 (run_in l.b)))

abbrev pub decreases-loop-start : goal.decreases-loop-start
decreases-loop-start l = l.c.to - l.c.at
