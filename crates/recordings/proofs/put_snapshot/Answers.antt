-- `recordings::put_snapshot` meets its contract: an image's snapshot always fits.
use mathlib.Core.Path.{sym, ap, ◌∙◌}
use Rattle.model.specs.Answers.{replied}
use Rattle.recordings.proofs.Shots.{shot, no_shot}
use Rattle.recordings.proofs.put_snapshot.Goals as goal

pub returns-in-Used : goal.returns-in-Used
returns-in-Used c =
    shot c.args.image.now c.args.out.now c.requires.0 c.requires.1 (ap replied (sym c.in-Used.is) ∙ c.emit_records.ensures.result_value)
    c.emit_records.ensures.out_after

pub returns-in-Refused : goal.returns-in-Refused
returns-in-Refused c =
    no_shot c.args.image.now c.args.out.now c.requires.0 c.requires.1
    (ap replied (sym c.in-Refused.is) ∙ c.emit_records.ensures.result_value)
