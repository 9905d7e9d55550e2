-- What is printed of final states; words and verdicts.
pub mod Keys
pub mod OutcomeLines
pub mod LastLines
pub mod MetEnds
pub mod Words
pub mod Meaning
pub mod Claims
pub mod TrueStates
pub mod OutcomeObjects
pub mod StatesFit
