-- `values::is_empty` meets its contract: a part is empty where it ends at its start.
use Rattle.image_entries.proofs.Records.{headed}
use Rattle.image_entries.proofs.Fields.{is_empty_lem}
use Rattle.image_entries.proofs.values.is_empty.Goals as goal

pub value_at-p-requires : goal.value_at-p-requires
value_at-p-requires c = headed _ c.requires

pub returns : goal.returns
returns c = is_empty_lem _ c.requires _ _ _ c.value_at-p.ensures
