pub mod Texts
pub mod Rests
pub mod Emitted
pub mod Taken
