pub mod Stream
pub mod Cuts
pub mod Calls
