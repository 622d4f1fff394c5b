pub mod Keys
pub mod Entities
pub mod Forms
