-- `lookup::freeze` meets its contract.
use mathlib.Core.Path.{sym, ◌∙◌}
use Rattle.find.proofs.Lent.{lent-entries, lent-kept, lent-held}
use Rattle.lookup_freezes.proofs.Names.{name_fits}
use Rattle.lookup.proofs.Answers.{freeze_no_image, freeze-refused, image_is, freeze-found}
use Rattle.lookup.proofs.freeze.Goals as goal

pub returns-then-not-is_image : goal.returns-then-not-is_image
returns-then-not-is_image c =
    let the_whole = freeze_no_image c.args.image.now c.args.out.now c.is_image.ensures c.if-not-is_image.true-raw _ in record { result_value = the_whole.0; out_after = the_whole.1 }

pub returns-then-f-ne0 : goal.returns-then-f-ne0
returns-then-f-ne0 c =
    let the_whole = freeze-refused c.args.image.now c.args.out.now c.is_image.ensures c.if-not-is_image.false-raw _ c.text_fault-f.ensures c.if-f-ne0.true in record { result_value = the_whole.0; out_after = the_whole.1 }

pub reals_end-end-requires : goal.reals_end-end-requires
reals_end-end-requires c =
    image_is c.args.image.now c.args.out.now c.is_image.ensures c.if-not-is_image.false-raw

pub emit_freeze-requires : goal.emit_freeze-requires
emit_freeze-requires c =
    (lent-entries _ c.reals_end-end.ensures, lent-kept _ c.reals_end-end.ensures, name_fits _ (sym c.if-f-ne0.false ∙ c.text_fault-f.ensures))

pub returns : goal.returns
returns c =
    let the_whole = freeze-found c.args.image.now c.args.out.now c.is_image.ensures c.if-not-is_image.false-raw _
    (sym c.if-f-ne0.false ∙ c.text_fault-f.ensures) (lent-held _ c.reals_end-end.ensures) (c.emit_freeze.ensures.result_value, c.emit_freeze.ensures.out_after) in record { result_value = the_whole.0; out_after = the_whole.1 }
