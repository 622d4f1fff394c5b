pub mod Packed
pub mod Undone
pub mod Numbered
