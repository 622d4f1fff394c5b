pub mod Olds
pub mod Moved
