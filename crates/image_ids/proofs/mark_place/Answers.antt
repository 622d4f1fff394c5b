-- `image_ids::mark_place` meets its contract: a named topic's id has 16 bytes.
use Rattle.image_ids.proofs.Named.{headed, id_fits, place_in}
use Rattle.image_ids.proofs.mark_place.Goals as goal

pub value_at-p-requires : goal.value_at-p-requires
value_at-p-requires c = headed _ c.requires.0

pub get16-requires : goal.get16-requires
get16-requires c = let p = c.requires in id_fits _ p.0 p.1 _ _ c.value_at-p.ensures

pub returns : goal.returns
returns c =
    let p = c.requires in
    (place_in _ p.0 p.1 _ _ c.value_at-p.ensures _ c.get16.ensures.0, c.get16.ensures.1)
