pub mod Totals
pub mod Trails
pub mod Passes
pub mod Emits
pub mod Shots
