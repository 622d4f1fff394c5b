-- `image_ids::is_new` meets its contract: a topic's second field is its id.
use mathlib.Core.Path.{◌∙◌}
use Rattle.keys.proofs.Found.{lent_slice}
use Rattle.image_ids.proofs.Named.{headed, id_in}
use Rattle.image_ids.proofs.Scans.{scanned_as}
use Rattle.image_ids.proofs.is_new.Goals as goal

pub value_at-p-requires : goal.value_at-p-requires
value_at-p-requires c = headed _ c.requires.1

pub returns : goal.returns
returns c =
    let v = c.value_at-p.ensures in
    scanned_as _ _ _ (id_in _ c.requires.1 _ (lent_slice _ _ _ v.1 ∙ v.0)) _ c.none_names.ensures
