pub mod Stored
pub mod Passes
pub mod Walks
pub mod Indexes
pub mod Answers
