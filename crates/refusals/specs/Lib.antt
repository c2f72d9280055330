pub mod Refusals
pub mod Orders
pub mod Says
