-- What the proofs of several functions use, and the proofs of the claims.
mod Signed
mod Laws
mod Fields
pub mod Claims
