pub mod Parse
pub mod Took
pub mod Places
