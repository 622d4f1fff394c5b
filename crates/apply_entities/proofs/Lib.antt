pub mod Orders
pub mod Steps
pub mod Places
pub mod Inserts
pub mod Sorts
pub mod Results
