pub mod Orders
pub mod HeaderLaws
pub mod RecordLaws
pub mod Files
pub mod RoundTrips
