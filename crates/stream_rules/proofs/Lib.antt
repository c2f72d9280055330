pub mod CallLaws
pub mod Fronts
pub mod Readings
pub mod Chains
pub mod Steps
pub mod Cuts
pub mod Calls
pub mod Parts
