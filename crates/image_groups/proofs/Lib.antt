pub mod Leading
pub mod Membership
pub mod Together
pub mod Places
pub mod Merge
