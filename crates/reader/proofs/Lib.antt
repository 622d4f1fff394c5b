pub mod Held
pub mod Only
pub mod Parts
pub mod Finds
