pub mod Turns
pub mod Sums
pub mod WorkedLocks
pub use Rattle.tso_terms.specs.Litmus
pub use Rattle.tso_terms.specs.ProgramOrder
pub use Rattle.relational_model.specs.Candidates
pub use Rattle.relational_model.specs.Model
