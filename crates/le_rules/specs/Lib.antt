pub mod Flags
pub mod Reading
pub mod Writing
pub mod Orders
pub mod RoundTrip
