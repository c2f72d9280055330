pub mod Tally
pub mod Orders
pub mod Counts
