pub mod Branch
pub mod Asked
pub mod Choosing
pub mod Contract
