-- `steps::replace` meets its contract.
use Rattle.apply_brokers.proofs.Drafts.{may-set, field-set}
use Rattle.apply_brokers.proofs.steps.replace.Goals as goal

pub set_field-requires : goal.set_field-requires
set_field-requires c =
    may-set c.requires.0 c.args.tag c.args.v.now c.requires.1

pub returns : goal.returns
returns c =
    field-set c.requires.0 c.args.tag c.args.v.now c.requires.1 c.set_field.auto.b c.set_field.ensures
