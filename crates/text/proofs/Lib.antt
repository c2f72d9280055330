pub mod DecimalLaws
pub mod SignLaws
pub mod Reading
