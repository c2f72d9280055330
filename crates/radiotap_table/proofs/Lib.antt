pub mod RoundLaws
pub mod RowLaws
