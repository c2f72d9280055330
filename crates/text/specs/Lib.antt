pub mod Decimal
pub mod Claims
