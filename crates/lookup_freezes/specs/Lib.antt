pub mod Freezes
