pub mod Vocabulary
pub mod RunsCounted
pub mod SweptRuns
pub mod FlatSweeps
pub mod StateLemmas
pub mod StallsAgain
