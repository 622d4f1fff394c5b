-- Request 11: two controllers' recordings.
--
--   one turn of two runs .................................. Turns
--   the theorems .......................................... Claim.parting_is_least, Claim.offset_apart, Claim.least_is_one
pub mod Turns
pub mod Claim
