pub mod Flags
pub mod Layouts
pub mod Writes
pub mod Says
