pub mod Fitting
pub mod Picks
pub mod Turns
pub mod Chosen
pub mod Emits
pub mod Answers
