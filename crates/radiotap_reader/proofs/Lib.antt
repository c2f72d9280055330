pub mod Readers
pub mod MoveLaws
