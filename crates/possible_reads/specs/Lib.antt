pub mod Expressions
pub mod Facts
pub mod Possible
pub mod Laws
pub mod Worked
pub use Rattle.refutation_laws.specs.Known
pub use Rattle.refutation_laws.specs.Refutations
