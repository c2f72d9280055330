pub mod Says
pub mod Keeping
