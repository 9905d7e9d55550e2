pub mod inner
pub use Rattle.refutation_laws.specs.Known
pub use Rattle.refutation_laws.specs.Edges
pub use Rattle.refutation_laws.specs.Values
pub use Rattle.refutation_laws.specs.Refutations
pub use Rattle.refutation_laws.specs.Shown
