pub mod Slots
pub mod Curve
pub mod Held
pub mod Part
pub mod Contract
