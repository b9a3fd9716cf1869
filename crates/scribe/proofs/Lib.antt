pub mod TextLaws
pub mod Unique
pub mod TripLaws
pub mod LineLaws
pub mod Figures
pub mod Reading
