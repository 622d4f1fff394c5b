pub mod Bases
pub mod Reading
pub mod Replies
pub mod Written
pub mod Numbers
pub mod Growing
pub mod Bodies
pub mod Writing
