-- `old::copy_value` meets its contract.
use Rattle.apply_topics.proofs.Olds.{copied_fits, copied}
use Rattle.apply_topics.proofs.old.copy_value.Goals as goal

pub copy-requires : goal.copy-requires
copy-requires c =
    copied_fits c.args.v.now c.args.e.now _ _ _ c.value_at-p.ensures c.requires.1

pub returns : goal.returns
returns c =
    copied c.args.v.now c.args.e.now _ _ _ c.value_at-p.ensures c.requires.1 c.copy.ensures
