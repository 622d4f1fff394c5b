pub mod Drafting
pub mod Values
pub mod Moved
