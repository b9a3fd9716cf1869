pub mod Sheet
pub mod Inside
pub mod Contract
pub mod Valid
