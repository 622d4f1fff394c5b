-- `tool_parting::snapshots::take_snapshot` meets its contract: by what the snapshot says.
use mathlib.Core.Path.{sym, ap, ◌∙◌}
use Rattle.model.specs.Answers.{replied}
use Rattle.tool_parting.proofs.Taken.{taken, not_taken}
use Rattle.tool_parting.proofs.snapshots.take_snapshot.Goals as goal

pub returns-in-Used : goal.returns-in-Used
returns-in-Used c =
    taken c.args.image.now c.args.out.now _ c.snapshot.ensures.out_after _ (ap replied (sym c.in-Used.is) ∙ c.snapshot.ensures.result_value)

pub returns-in-Refused : goal.returns-in-Refused
returns-in-Refused c =
    not_taken c.args.image.now c.args.out.now _ c.snapshot.ensures.out_after _ (ap replied (sym c.in-Refused.is) ∙ c.snapshot.ensures.result_value)
