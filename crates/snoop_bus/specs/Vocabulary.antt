-- The words of the crates below that the definitions of this crate use, in one place: each file takes its own from here.
pub use Rattle.tso_terms.specs.Limits.{most_cores, most_locations}
pub use Rattle.basic_laws.specs.Types.{Core, Loc}
pub use Rattle.protocol_tables.specs.Laws.{in_place, is_dirty, WritesInPlace}
pub use Rattle.protocol_tables.specs.Tables.{snoop, Table}
pub use Rattle.protocol_tables.specs.declared.requests.Request.{Request}
pub use Rattle.protocol_tables.specs.declared.requests.Request.TheVariants.{GetM, GetS}
pub use Rattle.protocol_tables.specs.declared.requests.Transient.{Transient}
pub use Rattle.protocol_tables.specs.declared.requests.Transient.TheVariants.{ImD, IsD, SmD}
pub use Rattle.protocol_tables.specs.declared.state.Snoop.{Snoop}
pub use Rattle.protocol_tables.specs.declared.state.State.{State}
pub use Rattle.protocol_tables.specs.declared.state.State.TheVariants.{E, I, M, O, S}
pub use Rattle.cache_set.specs.Contents.{Contents, victim_of}
pub use Rattle.cache_set.specs.Limits.{most_ways, most_words}
pub use Rattle.cache_set.specs.declared.Line.{Line}
pub use Rattle.cache_set.specs.declared.Victim.{Victim}
pub use Rattle.cache_set.specs.inner.Contents.{after_fill, with_changed, without}
pub use Rattle.cache_set.specs.inner.Copy.{copy_with, with_state}
