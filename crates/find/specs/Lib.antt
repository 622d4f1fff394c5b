pub mod Found
pub mod Probe
pub mod Returned
pub mod Reals
pub mod Logged
