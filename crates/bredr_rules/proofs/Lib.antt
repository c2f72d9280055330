pub mod Orders
pub mod WritingLaws
pub mod RoundTrip
pub mod Surveys
pub mod Counting
