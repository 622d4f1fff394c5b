pub mod Sound
pub mod Images
pub mod Steps
