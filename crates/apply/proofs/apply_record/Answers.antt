-- `apply::apply_record` meets its contract.
use mathlib.Core.Path.{refl, sym, ap, ◌∙◌, subst}
use lib.ListN.{length}
use Rattle.apply_step.specs.Step.{outcome, StillHolding}
use Rattle.apply.proofs.Applying.{laid-refused, laid-moved}
use native.Mathlib.Omega.{arith}
use Rattle.apply.proofs.apply_record.Goals as goal

pub try_in-requires : goal.try_in-requires
try_in-requires c =
    (c.requires.0, c.requires.1, refl, omega arith, omega arith)

pub lay-requires : goal.lay-requires
lay-requires c =
    let h = subst (StillHolding c.try_in.new.w (length c.args.image.now)) c.in-Moved.is c.try_in.ensures.1 in (h.good, h.fits)

pub returns-in-Refused : goal.returns-in-Refused
returns-in-Refused c =
    let the_whole = laid-refused c.args.image.now _ _ _ (ap (outcome c.try_in.new.w) (sym c.in-Refused.is) ∙ c.try_in.ensures.0) in record { result_value = the_whole.0; image_after = the_whole.1 }

pub returns-in-Moved : goal.returns-in-Moved
returns-in-Moved c =
    let the_whole = laid-moved c.args.image.now _ _ _ (ap (outcome c.try_in.new.w) (sym c.in-Moved.is) ∙ c.try_in.ensures.0) c.lay.ensures in record { result_value = the_whole.0; image_after = the_whole.1 }
