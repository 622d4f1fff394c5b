-- `fields::field` meets its contract. The invariant: the place that is looked for among the fields still to come is the one among all.
use Prim.Native.Nat.{◌≤◌, ◌-◌}
use mathlib.Core.Path.{◌≡◌}
use lib.ListN.{length}
use Rattle.fields.specs.Fields.{fields_from, place_of}
use Rattle.fields.proofs.field.Given as goal

abbrev pub invariant-loop-t : goal.invariant-loop-t
invariant-loop-t l =
    (l.c.at ≤ l.c.to) × (l.c.to ≡ l.initial.c.to) × (l.c.to ≤ length l.s) × (place_of l.tag l.c.at (fields_from l.s l.c) ≡ place_of l.tag l.initial.c.at (fields_from l.s l.initial.c))

abbrev pub decreases-loop-t : goal.decreases-loop-t
decreases-loop-t l = l.c.to - l.c.at
