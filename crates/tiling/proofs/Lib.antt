pub mod Walks
pub mod Tilings
