pub mod NamesLaws
pub mod Unique
pub mod Figures
