pub mod Rows
pub mod Bases
pub mod Columns
