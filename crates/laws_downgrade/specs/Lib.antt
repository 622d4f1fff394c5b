-- Request 9: downgrading is done after one pass.
--
--   a broker as a level knows it, known so again .......... Projected.project_again, Projected.project-key
--   one listed record's entry changes ..................... Changed.broker_moved, Changed.assign_moved
--   a partition's slots, one after the other .............. Slots.slots_pass
--   the pass over all entries, and nothing left to list ... Pass.pass, Pass.silent_all
--   what a listed record does not move .................... Rest.SameRest, Rest.broker_rest, Rest.assignment-rest
--   what is listed reads back and is admitted ............. Listed.Passes, Listed.all_pass
--   the theorems .......................................... Done.downgrade_done, downgrade-keeps, listed-admitted, only-room-refuses,
--                                                           Done.listing_reads_back, nothing-written-after
pub mod Projected
pub mod Changed
pub mod Slots
pub mod Pass
pub mod Rest
pub mod Listed
pub mod Done
