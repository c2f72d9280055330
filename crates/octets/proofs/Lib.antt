pub mod Laws
pub mod PartLaws
pub mod Signs
pub mod Fields
pub mod Arrays
