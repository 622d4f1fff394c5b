pub mod Slots
pub mod Filled
pub mod Partitions
pub mod Copies
pub mod Puts
pub mod Plans
