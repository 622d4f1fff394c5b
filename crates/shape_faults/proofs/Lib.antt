pub mod Parts
pub mod Leaves
pub mod Tags
pub mod Walks
pub mod Values
pub mod Runs
pub mod Gathered
