-- What the proofs of several functions use, here and above.
pub mod Signs
pub mod Units
pub mod Halves
