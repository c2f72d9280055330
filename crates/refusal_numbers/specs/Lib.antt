pub mod Named
pub mod Claims
