pub mod Composed
pub mod Inside
pub mod Contract
