-- `steps::cut` meets its contract: by what the snapshot says.
use mathlib.Core.Path.{sym, ap, ◌∙◌}
use lib.Seq.{length-take-le}
use Rattle.model.specs.Answers.{replied}
use Rattle.snapshot.proofs.Shots.{written_fits}
use Rattle.steps.proofs.Moves.{cut_taken, cut_refused}
use Rattle.steps.proofs.cut.Goals as goal

pub slice_bounds-restore-end : goal.slice_bounds-restore-end
slice_bounds-restore-end c =
    let said = ap replied (sym c.in-Used.is) ∙ c.snapshot.ensures.result_value in
    written_fits c.args.image.now c.args.out.now _ _ said c.snapshot.ensures.out_after

pub slice_bounds-restore-end-in-Used : goal.slice_bounds-restore-end-in-Used
slice_bounds-restore-end-in-Used c =
    let said = ap replied (sym c.in-Used.is) ∙ c.snapshot.ensures.result_value in
    sym (length-take-le _ _ (written_fits c.args.image.now c.args.out.now _ _ said c.snapshot.ensures.out_after))

pub returns-in-Used : goal.returns-in-Used
returns-in-Used c =
    let said = ap replied (sym c.in-Used.is) ∙ c.snapshot.ensures.result_value in
    let the_whole = cut_taken c.args.image.now c.args.out.now _ _ said c.snapshot.ensures.out_after _ c.restore.ensures.image_after in record { value = the_whole.0; image_after = the_whole.1.0; out_after = the_whole.1.1 }

pub returns-in-Refused : goal.returns-in-Refused
returns-in-Refused c =
    let said = ap replied (sym c.in-Refused.is) ∙ c.snapshot.ensures.result_value in
    let the_whole = cut_refused c.args.image.now c.args.out.now _ _ said c.snapshot.ensures.out_after in record { value = the_whole.0; image_after = the_whole.1.0; out_after = the_whole.1.1 }
