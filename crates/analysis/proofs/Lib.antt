pub mod SearchLaws
pub mod VerdictLaws
pub mod Figures
pub mod Unique
pub mod Judging
