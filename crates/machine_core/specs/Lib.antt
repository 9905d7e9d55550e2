pub mod Vocabulary
pub mod Running
pub mod Looking
pub mod Hits
pub mod Owners
pub mod Uses
pub mod Keeping
pub mod Effects
pub mod Split
pub mod OneChoice
pub mod inner
pub use Rattle.tso_terms.specs.FlatMachine
pub use Rattle.tso_terms.specs.Runs
pub use Rattle.tso_terms.specs.MemoryAccess
pub use Rattle.tso_terms.specs.SplitMachine
pub use Rattle.tso_terms.specs.EitherBus
pub use Rattle.tso_terms.specs.Together
pub use Rattle.cache_set.specs.Geometry
pub use Rattle.snoop_bus.specs.Accesses
pub use Rattle.snoop_bus.specs.inner.Accesses as InnerAccesses
pub use Rattle.snoop_bus.specs.Bus
pub use Rattle.snoop_bus.specs.inner.Bus as InnerBus
pub use Rattle.multiprocessor.specs.Configuration
pub use Rattle.multiprocessor.specs.Caches
pub use Rattle.multiprocessor.specs.inner.Caches as InnerCaches
pub use Rattle.multiprocessor.specs.Statistics
pub use Rattle.multiprocessor.specs.Answered
