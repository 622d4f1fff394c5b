-- Laws of Apply: what a record does to contents that fit leaves contents that fit.
--
--   records that read back ................................ Readable.logged_readable, Readable.set_readable
--   entries such as Apply stores, changed one by one ...... Entries.Stored and its neighbours; found by key: Found.found
--   counts and ids after a change ......................... Topics.put_topics, topic-topics, part-topics, keep-topics
--   empty groups after a change ........................... Groups.put_empties, join-empties, leave-empties
--   what a move must carry ................................ Lawful.Lawful
--   a lawful move keeps what Apply keeps .................. Moves.Holds, Moves.move-holds, Moves.moves_hold
--   keys that a move or a record does not touch ........... Untouched.untouched, Untouched.moved_other
--   no move sets the log offset, nor looks at it .......... Moves.offset-move, Moves.moved-dated
--   records that plans make read back ..................... Changes; quotas with their entities sorted: Quotas
--   quotas with their entities in another order ........... Permuted.keys_meet, Permuted.keys_apart, Permuted.quotas_meet
--   every move of a plan is lawful ........................ Plans.plan_lawful
--   contents that fit fit afterwards ...................... MovedFits.moved_fits, MovedFits.outcome, MovedFits.applied_fits,
--                                                           MovedFits.applied-at_fits
--   what Restore accepts, and the last record that sets ... Accepts.accepting, Accepts.last-stands, Accepts.accepted-last
--   the last record of a quota in a run stands ............ Spellings.one_group, Spellings.later-stands
--   Apply keeps images, and what it answers ............... Apply.apply_image, Apply.apply_contents
pub mod Readable
pub mod Entries
pub mod Topics
pub mod Groups
pub mod Lawful
pub mod Moves
pub mod Untouched
pub mod Changes
pub mod Quotas
pub mod Permuted
pub mod Found
pub mod Plans
pub mod MovedFits
pub mod Accepts
pub mod Spellings
pub mod Apply
