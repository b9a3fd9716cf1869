pub mod Seven
pub mod Inside
pub mod Contract
