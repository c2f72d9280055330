pub mod Orders
pub mod WritingLaws
pub mod RoundTrip
