pub mod Moves
pub mod Made
pub mod Proper
pub mod Entries
pub mod Loads
pub mod Lays
