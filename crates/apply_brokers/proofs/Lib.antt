pub mod Drafts
pub mod Fields
pub mod Plans
