pub mod Throttles
