pub mod Fronts
pub mod Writes
pub mod Opens
