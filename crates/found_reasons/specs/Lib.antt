pub mod Reasons
pub mod inner
pub use Rattle.refutation_laws.specs.Known
pub use Rattle.refutation_laws.specs.Refutations
pub use Rattle.refutation_laws.specs.Models
pub use Rattle.possible_reads.specs.Facts
pub use Rattle.lemma_refutations.specs.Refutations as LemmaRefutations
pub use Rattle.refutation_checker.specs.Trees
