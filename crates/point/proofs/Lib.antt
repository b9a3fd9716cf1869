pub mod Unique
pub mod Walks
pub mod Turns
pub mod Nodes
