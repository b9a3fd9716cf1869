pub mod TextLaws
pub mod HeldLaws
pub mod Figures
pub mod Unique
pub mod Putting
pub mod Reporting
