pub mod Earlier
pub mod Says
