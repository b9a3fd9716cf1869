pub mod Point
pub mod Searchable
pub mod Contract
