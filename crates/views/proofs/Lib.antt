pub mod Prefixes
pub mod Seen
pub mod Queries
