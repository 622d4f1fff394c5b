pub mod Numbers
pub mod Rest
pub mod Laid
pub mod Compared
pub mod Begins
pub mod Utf8
