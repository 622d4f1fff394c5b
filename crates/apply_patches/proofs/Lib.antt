pub mod Topics
pub mod Entries
pub mod Walks
