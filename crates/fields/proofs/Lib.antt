pub mod Unique
pub mod StepLaws
pub mod PlaceLaws
pub mod CursorLaws
pub mod Figures
