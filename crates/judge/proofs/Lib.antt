pub mod Scopes
pub mod Lawful
pub mod Logged
pub mod Counted
pub mod Replaced
pub mod Epochs
pub mod Approvals
pub mod Settled
