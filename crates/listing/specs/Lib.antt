pub mod Text
pub mod Held
pub mod Contract
