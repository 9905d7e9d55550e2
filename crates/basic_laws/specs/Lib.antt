pub mod Ranks
pub use Rattle.tso_terms.specs.ProgramOrder
pub mod Types
