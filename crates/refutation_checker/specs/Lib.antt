pub mod Trees
pub mod inner
pub use Rattle.lemma_refutations.specs.Edges
pub use Rattle.lemma_refutations.specs.Refutations
pub use Rattle.lemma_refutations.specs.Shown
