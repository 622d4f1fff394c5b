pub mod Write
pub mod Field
pub mod Unpacked
