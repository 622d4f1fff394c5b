pub mod Whole
pub mod Ascent
