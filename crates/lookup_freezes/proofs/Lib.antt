pub mod Names
pub mod Prefixes
pub mod Places
pub mod Climbs
