pub mod Onward
pub mod Fitting
pub mod Written
pub mod Marking
