pub mod SetLaws
pub mod KnownLaws
pub mod LeftLaws
pub mod SetBitsLaws
