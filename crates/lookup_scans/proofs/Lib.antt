pub mod Short
pub mod Counted
pub mod Named
