pub mod Light
pub mod Loaded
pub mod Stepping
