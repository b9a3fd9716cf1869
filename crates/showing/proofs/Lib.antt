pub mod ShownLaws
pub mod ReadLaws
pub mod Unique
pub mod Figures
pub mod Lining
