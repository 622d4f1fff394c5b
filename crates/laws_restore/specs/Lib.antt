-- Laws of Restore: what a snapshot makes again.
--
--   records applied in order, behind kind 26 .............. Replay.replay_records, Replay.replay-bytes, Replay.replay-dated
--   entries as a prefix of a snapshot makes them .......... Settled.settled, Settled.restored_plain, restored-topic, restored-part
--   what they weigh ....................................... Weight.weight-settled
--   the plan of a stored entry's record ................... Plans.plan_stores, Plans.overflows-new
--   one record of a snapshot .............................. Steps.moved_more, Steps.apply-more
--   the restored image .................................... Restored.restored_is, Restored.restored-bytes, Restored.restore_snapshot
--   it fits ............................................... RestoredFits.restored_fits
--   a cut of an image ..................................... Cut.cut_becomes_restored
pub mod Replay
pub mod Settled
pub mod Weight
pub mod Plans
pub mod Steps
pub mod Restored
pub mod RestoredFits
pub mod Cut
