-- The words of the crates below that the definitions of this crate use, in one place: each file takes its own from here.
pub use Rattle.tso_terms.specs.EitherBus.{after_on, BusState, effect_on, unheld}
pub use Rattle.tso_terms.specs.FlatMachine.{chosen, core_of, CoreState, drain_of, Effect, effect_by, fenced}
pub use Rattle.tso_terms.specs.FlatMachine.{memory_after, start, State, stored}
pub use Rattle.tso_terms.specs.Limits.{most_cores, most_depth, most_instructions}
pub use Rattle.tso_terms.specs.Litmus.{IsTest, Litmus}
pub use Rattle.tso_terms.specs.MemoryAccess.{access_by, access_of, Locks, MemoryAccess, NoAccess, Reads, Writes}
pub use Rattle.tso_terms.specs.ProgramOrder.{writes_to}
pub use Rattle.tso_terms.specs.Runs.{has_ended}
pub use Rattle.tso_terms.specs.SplitMachine.{Attempt, BusEffect, Free, HeldBetween, HeldBy, Holder, needs_bus}
pub use Rattle.tso_terms.specs.Thread.{entry}
pub use Rattle.store_buffer.specs.Stores.{Stores}
pub use Rattle.store_buffer.specs.declared.Pending.{Pending}
pub use Rattle.store_buffer.specs.inner.Stores.{stores}
pub use Rattle.protocol_tables.specs.Tables.{Table}
pub use Rattle.snoop_bus.specs.Accesses.{awaited_of, contents_of, new_bus}
pub use Rattle.snoop_bus.specs.Asks.{Awaited, tag_at}
pub use Rattle.snoop_bus.specs.Bus.{BusModel, cores_of, holder_of, IsFree, words_of}
pub use Rattle.cache_set.specs.Geometry.{Geometry}
pub use Rattle.snoop_bus.specs.Rows.{table_of_rows, TableColumns}
