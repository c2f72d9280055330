pub mod NamedAnswer
pub mod Captures
pub mod Values
pub mod Radiotap
