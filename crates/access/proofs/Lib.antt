pub mod Body
pub mod Values
pub mod Sign
pub mod Named
pub mod Nodes
pub mod Accepted
