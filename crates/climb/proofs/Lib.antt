pub mod Unique
pub mod Giving
pub mod Climbing
