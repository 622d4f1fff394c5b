pub mod Places
pub mod Emits
