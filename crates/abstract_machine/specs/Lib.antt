pub mod Machine
pub mod Steps
pub mod Ended
pub mod OneStep
pub use Rattle.tso_terms.specs.Litmus
pub use Rattle.tso_terms.specs.ProgramEntries
pub use Rattle.tso_terms.specs.Axioms
pub use Rattle.tso_terms.specs.Standing
pub use Rattle.tso_terms.specs.ProgramOrder
pub use Rattle.tso_terms.specs.SequentialConsistency
pub use Rattle.tso_terms.specs.FinalState
pub use Rattle.tso_terms.specs.Together
pub use Rattle.tso_terms.specs.Examples
pub use Rattle.tso_laws.specs.Counting
pub use Rattle.tso_laws.specs.Reached
pub use Rattle.tso_laws.specs.WorkedRuns
pub use Rattle.tso_laws.specs.inner.WorkedRuns as InnerWorkedRuns
