pub mod PresenceLaws
pub mod WordLaws
