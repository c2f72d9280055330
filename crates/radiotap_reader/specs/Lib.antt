pub mod Reader
pub mod Says
