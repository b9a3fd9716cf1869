pub mod DecimalLaws
pub mod LinesLaws
pub mod PutLaws
pub mod Unique
pub mod Figures
