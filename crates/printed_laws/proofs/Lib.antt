pub mod Vocabulary
pub mod texts
pub mod json
pub mod reports
pub mod states
pub mod steps
pub mod lines
