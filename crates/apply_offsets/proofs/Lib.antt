pub mod Sums
pub mod Offsets
pub mod Stores
