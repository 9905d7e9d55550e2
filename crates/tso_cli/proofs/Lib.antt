pub mod Vocabulary
pub mod AnswerLemmas
pub mod DividingLemmas
pub mod Lines
pub mod TraceLemmas
pub mod ToldLines
pub mod TraceLengths
pub mod NamedBreaches
pub mod FoundOutcomes
pub mod Sighted
pub mod SweptText
pub mod SweepLemmas
mod CountsLemmas
pub mod OneAnswer
pub mod WitnessLemmas
pub mod OutcomesLemmas
pub mod WhyLemmas
pub mod PrintedLemmas
pub mod Revisited
pub mod HeadlineLemmas
pub mod CheckLemmas
pub mod CommandLemmas
pub mod Joined
pub mod Rechecked
pub mod Replayed
mod ExplainedLemmas
pub mod MachineLemmas
mod SameStates
mod SweptLines
pub mod OneTextLemmas
mod OneSearchLemmas
mod OneReasonLemmas
pub mod FittingRuns
pub mod FittingSweeps
pub mod StepLemmas
