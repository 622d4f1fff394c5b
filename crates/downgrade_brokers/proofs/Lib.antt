pub mod Known
pub mod Walks
pub mod Projected
