pub mod ComposedLaws
pub mod ToldLaws
pub mod Unique
pub mod Figures
pub mod Complaining
pub mod Making
