pub mod ListLaws
pub mod FieldsLaws
