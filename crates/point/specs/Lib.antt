pub mod Point
pub mod Nodes
pub mod Contract
