-- `lookup_scans::emit_named` meets its contract: what is written of the place that `find_id` found is what is found.
use Rattle.lookup_scans.proofs.Named.{named-holds, named_emits}
use Rattle.lookup_scans.proofs.emit_named.Goals as goal

pub emit_place-requires : goal.emit_place-requires
emit_place-requires c = named-holds _ _ _ _ c.find_id-p.ensures c.requires.1

pub returns : goal.returns
returns c =
    let the_whole = named_emits _ _ _ _ c.find_id-p.ensures _ (c.emit_place.ensures.result_value, c.emit_place.ensures.out_after) in record { result_value = the_whole.0; out_after = the_whole.1 }
