pub mod Header
pub mod Record
pub mod File
pub mod Writing
pub mod Drops
pub mod Orders
pub mod Claims
