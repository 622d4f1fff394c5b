pub mod Found
pub mod First
pub mod Orders
pub mod Elements
pub mod Keys
pub mod Fields
