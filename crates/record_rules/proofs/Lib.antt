pub mod Filling
pub mod Splices
pub mod Joining
