pub mod Assign
