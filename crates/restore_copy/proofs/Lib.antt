pub mod Rebuilds
pub mod Steady
pub mod Whole
