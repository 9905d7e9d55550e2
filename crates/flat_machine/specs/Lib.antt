pub mod State
pub use Rattle.tso_terms.specs.FlatMachine
pub use Rattle.tso_terms.specs.Litmus
pub use Rattle.tso_terms.specs.Runs
