pub mod Plans
pub mod Fixed
