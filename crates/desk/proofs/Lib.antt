pub mod Unique
pub mod DetailLaws
pub mod SaysLaws
pub mod DemandLaws
pub mod EntryLaws
pub mod Figures
pub mod Answering
