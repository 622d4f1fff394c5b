pub mod Records
pub mod Walks
pub mod Partitions
