-- The words of the crates below that the definitions of this crate use, in one place: each file takes its own from here.
pub use Rattle.tso_terms.specs.Condition.{AndClaim, Claim, LocClaim, NotClaim, OrClaim, RegClaim, truth_of, TruthClaim}
pub use Rattle.tso_terms.specs.EitherBus.{after_on, BusRun, BusState, effect_on, run_on, unheld}
pub use Rattle.tso_terms.specs.FlatMachine.{CoreState, Effect, effect_of, start}
pub use Rattle.tso_terms.specs.Litmus.{Litmus}
pub use Rattle.tso_terms.specs.Runs.{run}
pub use Rattle.tso_terms.specs.SplitMachine.{Attempt, BusEffect, Holder}
pub use Rattle.basic_laws.specs.Types.{Entry, LR, LW, R, W, Core}
pub use Rattle.protocol_tables.specs.Tables.{msi, Table}
pub use Rattle.protocol_tables.specs.declared.state.State.{State}
pub use Rattle.protocol_tables.specs.declared.state.State.TheVariants.{E, I, M, O, S}
pub use Rattle.snoop_bus.specs.CacheContents.{Accessed}
pub use Rattle.cache_set.specs.CacheTags.{TagSets}
pub use Rattle.cache_set.specs.Geometry.{Geometry, geometry}
pub use Rattle.cache_set.specs.Tags.{TagSet}
