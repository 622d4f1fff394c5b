pub mod Named
pub mod Apart
pub mod Turns
pub mod Scans
pub mod Marks
