pub mod AskedLaws
pub mod StepLaws
pub mod WordLaws
