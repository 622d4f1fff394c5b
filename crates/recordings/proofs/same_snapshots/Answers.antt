-- `recordings::same_snapshots` meets its contract: both snapshots are compared behind the offset.
use Rattle.recordings.proofs.Shots.{same_shots}
use Rattle.recordings.proofs.same_snapshots.Goals as goal

pub returns : goal.returns
returns c =
    same_shots _ _ _ _ c.put_snapshot-n.ensures c.put_snapshot-m.ensures c.same.ensures
