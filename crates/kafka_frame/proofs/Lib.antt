pub mod Versions
pub mod Frames
pub mod Tagged
