pub mod Flags
pub mod Reading
pub mod Writing
pub mod Survey
pub mod Orders
pub mod RoundTrip
pub mod Counting
