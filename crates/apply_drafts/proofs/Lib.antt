pub mod Drafts
pub mod Places
pub mod Fronts
