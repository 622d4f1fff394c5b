-- `shape_faults::key_of` meets its contract: the key is where the field lookup found it.
use native.Mathlib.Omega.{arith}
use Rattle.shape_faults.proofs.Walks.{key-found, key-missing, part-within}
use Rattle.shape_faults.proofs.key_of.Goals as goal

pub overflow_add-result : goal.overflow_add-result
overflow_add-result c =
    let f = c.field.ensures in
    let w = part-within c.in-Part.is f.1 in
    omega arith

pub returns-in-Part : goal.returns-in-Part
returns-in-Part c =
    let g = c.in-Part.is in
    let f = c.field.ensures in
    let w = part-within g f.1 in
    (key-found _ f.0 g, omega arith)

pub returns-in-Missing : goal.returns-in-Missing
returns-in-Missing c = key-missing _ c.field.ensures.0 c.in-Missing.is _ c.no_key.ensures
