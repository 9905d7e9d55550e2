-- The words of the crates below that the definitions of this crate use, in one place: each file takes its own from here.
pub use Rattle.tso_terms.specs.EitherBus.{BusState, effect_on, HitFits, unheld}
pub use Rattle.tso_terms.specs.FlatMachine.{CoreState, start, State, applied, chosen, Effect, effect_of}
pub use Rattle.tso_terms.specs.Litmus.{Litmus}
pub use Rattle.tso_terms.specs.MemoryAccess.{access_of, Locks, MemoryAccess, NoAccess, Reads, Writes}
pub use Rattle.tso_terms.specs.Runs.{has_ended}
pub use Rattle.tso_terms.specs.SplitMachine.{Attempt, BusEffect, Free, HeldBetween, HeldBy, Holder, acts, begins, completes}
pub use Rattle.tso_terms.specs.SplitMachine.{same_choice, split_effect, writes_last}
pub use Rattle.protocol_tables.specs.Tables.{Table}
pub use Rattle.snoop_bus.specs.Accesses.{with_words}
pub use Rattle.snoop_bus.specs.Asks.{Awaited}
pub use Rattle.snoop_bus.specs.Rows.{table_of_rows}
pub use Rattle.snoop_bus.specs.Bus.{BusModel, cores_of, holder_of, words_of}
pub use Rattle.snoop_bus.specs.declared.holding.Stage.TheVariants.{Locked}
