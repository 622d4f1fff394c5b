pub mod Arms
pub mod ByKind
pub mod Advance
pub mod OnStates
pub mod Moved
pub mod Steps
