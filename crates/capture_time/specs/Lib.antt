-- What the contracts cite, and the claims.
pub mod Time
pub mod Claims
