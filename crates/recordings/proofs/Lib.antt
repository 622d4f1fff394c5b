pub mod Copies
pub mod Advances
pub mod Shots
pub mod Turning
pub mod Runs
