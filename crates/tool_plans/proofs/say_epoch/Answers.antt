-- `tool_plans::say_epoch` stays in its types: an epoch of 32 bits is one of 64.
use mathlib.Core.Path.{sym, subst}
use mir.Syntax.{w32, w64}
use mir.Val.{SFits}
use mir.Facts.{to_z-of_z, sfits_widen}
use Rattle.tool_plans.proofs.say_epoch.Goals as goal

pub overflow_cast-epoch : goal.overflow_cast-epoch
overflow_cast-epoch c =
    let fits : SFits w32 c.in-Is.epoch.0 = record { sfits = c.struct_told-1.given.0.1 } in
    subst (SFits w64) (sym (to_z-of_z fits)) (sfits_widen tt fits)
