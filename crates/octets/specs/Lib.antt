pub mod Numbers
pub mod Signed
pub mod Parts
pub mod Claims
