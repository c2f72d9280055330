pub mod Asked
pub mod Met
pub mod Says
