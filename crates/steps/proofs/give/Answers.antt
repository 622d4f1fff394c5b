-- `steps::give` meets its contract: by what Validate says.
use mathlib.Core.Path.{◌∙◌}
use Rattle.steps.proofs.Moves.{refused_verdict, refused_image, applied_verdict, applied_image}
use Rattle.steps.proofs.give.Goals as goal

pub returns-then-validate-ne0 : goal.returns-then-validate-ne0
returns-then-validate-ne0 c =
    let e = c.validate-validate.ensures in
    record { result_value = refused_verdict e _ c.if-validate-ne0.true; image_after = refused_image e _ _ c.if-validate-ne0.true }

pub returns : goal.returns
returns c =
    let e = c.validate-validate.ensures in
    let a = c.apply-apply.ensures in
    record { result_value = applied_verdict e a.result_value; image_after = a.image_after ∙ applied_image e _ _ c.if-validate-ne0.false }
