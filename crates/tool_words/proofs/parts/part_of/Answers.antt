-- `tool_words::parts::part_of` stays in its run.
use native.Mathlib.Omega.{arith}
use Rattle.fields.proofs.Took.{within-part}
use Rattle.tool_words.proofs.parts.part_of.Goals as goal

pub overflow_add-result : goal.overflow_add-result
overflow_add-result c = let w = within-part c.in-Part.is c.field.ensures.1 in omega arith

pub returns-in-Part : goal.returns-in-Part
returns-in-Part c =
    let w = within-part c.in-Part.is c.field.ensures.1 in
    (omega arith, omega arith)
