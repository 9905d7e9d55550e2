pub mod Told
pub mod inner
pub use Rattle.possible_reads.specs.Expressions
pub use Rattle.possible_reads.specs.Facts
pub use Rattle.possible_reads.specs.Possible
