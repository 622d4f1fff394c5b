-- `apply_offsets::sum_of` meets its contract: the two places are those of the stored offset and of the advance.
use Rattle.model.specs.Run.{value}
use Rattle.model.specs.Move.{stored_offset}
use Rattle.entries.specs.Entries.{record_in}
use Rattle.entries.specs.Held.{entries_in}
use Rattle.apply_offsets.proofs.Sums.{sum_is}
use Rattle.apply_offsets.proofs.Offsets.{advance_asked, advance-place}
use Rattle.apply_offsets.proofs.sum_of.Goals as goal

pub place_in-more-requires : goal.place_in-more-requires
place_in-more-requires c =
    advance_asked _ c.requires.1 c.requires.2

pub returns : goal.returns
returns c =
    let run = (record_in c.args.rec.now).run in
    sum_is (stored_offset run (entries_in c.args.s.now)) (value 3 run) c.stored_place-old.ensures
    (advance-place _ c.requires.1 c.requires.2 c.place_in-more.ensures) c.add.ensures
