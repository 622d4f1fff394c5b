pub mod Counting
pub mod Lengths
pub mod Places
pub mod Written
pub mod Exits
