pub mod Cells
pub mod Keys
pub mod Numbers
pub mod Choose
pub mod Left
pub mod State
pub mod Afresh
