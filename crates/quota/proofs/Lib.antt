pub mod Values
pub mod Wholes
