pub mod StepsLaws
pub mod Unique
pub mod Stepping
pub mod Decoding
