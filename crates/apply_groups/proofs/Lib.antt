pub mod Runs
pub mod Records
pub mod Others
pub mod Members
