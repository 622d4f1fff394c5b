pub mod Stored
pub mod Quotas
