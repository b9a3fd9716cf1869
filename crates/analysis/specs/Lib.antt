pub mod Verdict
pub mod Held
pub mod Contract
