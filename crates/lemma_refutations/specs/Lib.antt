pub mod Edges
pub mod Refutations
pub mod Laws
pub mod Shown
pub mod Worked
pub use Rattle.possible_reads.specs.Expressions
pub use Rattle.possible_reads.specs.Facts
pub use Rattle.possible_reads.specs.Possible
