pub mod Turns
pub mod Shortest
