-- `access::leader_epoch` meets its contract, by whether there is a number.
use mathlib.Core.Path.{◌∙◌}
use native.Mathlib.Omega.{arith}
use mir.Syntax.{w32}
use mir.ValLaws.{to_z-of_z}
use Rattle.access.proofs.Named.{below_is, epoch_is_lem, epoch-missing}
use Rattle.access.proofs.leader_epoch.Goals as goal

pub overflow_cast-n : goal.overflow_cast-n
overflow_cast-n c = record { fits = omega (arith, below_is c.in-Is.is c.number_in.ensures.1) }

pub returns-in-Is : goal.returns-in-Is
returns-in-Is c =
    let z = to_z-of_z w32 c.signed.result (record { sfits = c.signed.type_inv }) ∙ c.signed.ensures in
    epoch_is_lem _ c.number_in.ensures.0 c.in-Is.is z

pub returns-in-Missing : goal.returns-in-Missing
returns-in-Missing c = epoch-missing _ c.number_in.ensures.0 c.in-Missing.is
