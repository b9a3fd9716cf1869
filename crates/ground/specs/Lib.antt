pub mod Each
pub mod Base
pub mod Buffer
