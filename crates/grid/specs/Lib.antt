pub mod Steps
pub mod Contract
