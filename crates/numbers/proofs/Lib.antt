pub mod Unique
pub mod SevenLaws
pub mod Figures
pub mod Scan
pub mod Putting
