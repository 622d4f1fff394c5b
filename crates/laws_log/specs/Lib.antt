-- Request 14: the freeze, from the log alone.
--
--   what a record does to a freeze ........................ Freezes.moved-freeze
--   the theorem ........................................... Claim.freeze_from_log
pub mod Freezes
pub mod Claim
