pub mod Checking
pub mod Forms
pub mod Exits
