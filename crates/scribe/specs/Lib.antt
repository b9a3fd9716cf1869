pub mod Text
pub mod Contract
