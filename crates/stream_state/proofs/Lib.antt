pub mod Fills
pub mod Cases
pub mod Rows
