pub mod Vocabulary
mod ExactSearches
mod LinesAgain
mod NoMore
mod Refuting
mod RefutingByLemmas
mod SomeExecution
mod TracedRuns
mod Waiting
mod WordsFound
