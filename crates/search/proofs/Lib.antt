pub mod SearchLaws
pub mod Unique
pub mod Gathering
pub mod Wanting
pub mod Searching
