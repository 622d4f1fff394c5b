pub mod Sides
pub mod Tallies
pub mod Topics
pub mod Merges
