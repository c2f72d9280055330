pub mod Layouts
pub mod Writes
