pub mod Vocabulary
pub mod Generated
pub mod Items
pub mod ChoiceWords
pub mod Found
pub mod Whole
pub mod Loop
pub mod Capped
pub mod Stopping
pub mod Cores
pub mod Counted
pub mod Fitting
mod FirstWord
mod PrintedWords
