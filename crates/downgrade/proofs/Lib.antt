pub mod ByKind
pub mod Emits
