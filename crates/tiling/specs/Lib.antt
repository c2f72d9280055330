pub mod Tiling
pub mod Claims
