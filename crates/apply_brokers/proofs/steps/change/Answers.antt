-- `steps::change` meets its contract: the four steps, one after another.
use Rattle.apply_brokers.proofs.Drafts.{drafted_read}
use Rattle.apply_brokers.proofs.Fields.{all_set}
use Rattle.apply_brokers.proofs.steps.change.Goals as goal

pub shut-down-requires : goal.shut-down-requires
shut-down-requires c = (drafted_read c.fence-fenced.ensures, c.requires.1)

pub set_dirs-size-requires : goal.set_dirs-size-requires
set_dirs-size-requires c = (drafted_read c.shut-down.ensures, c.requires.1)

pub set_cordoned-requires : goal.set_cordoned-requires
set_cordoned-requires c =
    (drafted_read c.set_dirs-size.ensures, c.requires.1)

pub returns : goal.returns
returns c =
    all_set _ _ c.fence-fenced.ensures c.shut-down.ensures c.set_dirs-size.ensures c.set_cordoned.ensures
