pub mod Packed
pub mod Answer
pub mod Record
pub mod Contract
pub mod Says
pub mod Answered
