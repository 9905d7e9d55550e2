pub mod Pairs
pub mod inner
pub use Rattle.tso_terms.specs.Axioms
pub use Rattle.tso_terms.specs.Together
