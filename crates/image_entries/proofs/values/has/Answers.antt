-- `values::has` meets its contract: what `field` found is the entry's field.
use native.Mathlib.Omega.{arith}
use Rattle.image_entries.proofs.Records.{headed}
use Rattle.image_entries.proofs.Fields.{is_there, is_missing}
use Rattle.image_entries.proofs.values.has.Goals as goal

pub field-requires : goal.field-requires
field-requires c = (headed _ c.requires, omega arith)

pub returns-in-Part : goal.returns-in-Part
returns-in-Part c = is_there _ c.requires _ c.field.ensures.0 c.in-Part.is

pub returns-in-Missing : goal.returns-in-Missing
returns-in-Missing c = is_missing _ c.requires _ c.field.ensures.0 c.in-Missing.is
