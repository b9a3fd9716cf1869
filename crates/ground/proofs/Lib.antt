pub mod OrderLaws
pub mod ValueLaws
pub mod EachLaws
pub mod BaseLaws
pub mod BufferLaws
