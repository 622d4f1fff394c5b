-- Demand 3: a restart changes no later answer.
--
--   contents that differ in their empty groups alone ...... Like.Like, Like.like_weight, Like.like_moved
--   what a restore does not change ........................ Good.Good, Good.like_restored
--   topics that count their partitions, by move ........... Accurate
--   an accepted record keeps contents good ................ Accepted.good_moved
--   operations that only read answer alike ................ Answers.Alike, Answers.same_topic and its neighbours
--   a record step on contents ............................. Offered.offered, Offered.offered_matched
--   images along a history ................................ Bytes.after_contents, Bytes.reached_image
--   one step of both histories ............................ Beside.same_answer, Beside.close_step, Beside.close_cut
--   whatever Restore is given, it leaves an image ......... Restores.restore_leaves_image
--   the image's offset is the last applied record's ....... Offsets.offset_of-last
--   the theorems .......................................... Cuts.cuts_unseen, cuts-alike, cut-anywhere, cut-becomes-restored,
--                                                           Cuts.reached-is_image
pub mod Like
pub mod Good
pub mod Accurate
pub mod Accepted
pub mod Answers
pub mod Offered
pub mod Bytes
pub mod Restores
pub mod Offsets
pub mod Beside
pub mod Cuts
