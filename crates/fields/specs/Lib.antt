pub mod Rule
pub mod Cursor
pub mod Step
pub mod Refusal
pub mod Contract
