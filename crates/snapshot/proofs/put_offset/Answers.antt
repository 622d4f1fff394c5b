-- `snapshot::put_offset` meets its contract: kind 26, whose one field is the log offset.
use Rattle.snapshot.proofs.Trails.{offset-written}
use Rattle.snapshot.proofs.put_offset.Goals as goal

pub returns : goal.returns
returns c =
    offset-written c.args.out.now _ c.offset_in.ensures c.put_number.ensures
