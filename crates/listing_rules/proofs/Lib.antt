pub mod ListingLaws
pub mod WalkLaws
pub mod Shown
pub mod Orders
