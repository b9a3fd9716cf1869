pub mod Names
pub mod Contract
