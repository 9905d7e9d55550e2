pub mod Vocabulary
pub mod Walking
pub mod Rounds
pub mod Growing
