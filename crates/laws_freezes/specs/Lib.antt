pub mod Freezes
pub mod Few
pub mod Indexes
pub mod Unread
pub mod Runs
pub mod Sizes
