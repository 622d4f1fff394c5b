pub mod Framed
pub mod Restoring
