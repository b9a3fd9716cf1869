pub mod Shown
pub mod Contract
