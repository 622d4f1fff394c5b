-- `steps::set_dirs` meets its contract: a change with no directories keeps the old ones.
use Rattle.image_entries.proofs.Records.{headed}
use Rattle.apply_brokers.proofs.Fields.{dirs_suit, no_dirs, dirs_set}
use Rattle.apply_brokers.proofs.steps.set_dirs.Goals as goal

pub value_at-p-requires : goal.value_at-p-requires
value_at-p-requires c = headed _ c.requires.1.is

pub returns-then-start-end : goal.returns-then-start-end
returns-then-start-end c =
    no_dirs _ c.requires.1 _ _ _ c.value_at-p.ensures c.if-start-end.true c.requires.0

pub replace-requires : goal.replace-requires
replace-requires c =
    (c.requires.0, dirs_suit _ c.requires.1 _ _ c.value_at-p.ensures)

pub returns : goal.returns
returns c =
    dirs_set _ c.requires.1 _ _ _ c.value_at-p.ensures c.if-start-end.false c.replace.ensures
