pub mod Numbers
pub mod Factors
pub mod Tallies
pub mod Merges
pub mod Levels
