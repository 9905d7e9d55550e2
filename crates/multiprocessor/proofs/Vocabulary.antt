-- The names that the proofs of this crate bring in from definitions and from crates below; each file takes its own from here.
pub use Rattle.std.proofs.Common.{◌≡◌, ◌<◌, ◌≤◌, ◌+◌, ℕ, zero, suc, nat_lt, List, [], ◌∷◌, length, Option, None, Some, is_some, slice_get}
pub use Rattle.std.proofs.Common.{slice_index_or, refl, sym, ap, ◌∙◌, arith, map, slice_set, subst, ◌||◌, ◌==◌, Bool, true, false}
pub use Rattle.std.proofs.Common.{if◌then◌else◌, filter, ◌++◌, drop, append-nil, IsTrue, Result, ◌≢◌, IfOk, inr, inl, All, ◌-◌, ◌⊎◌}
pub use Rattle.std.proofs.Common.{length-append, length-set, slice_index, ◌*◌, take, unwrap_or, drop-cons, add-one, append_assoc, rules}
pub use Rattle.std.proofs.lemmas.Bool.Decides.{nat_tests}
pub use Rattle.multiprocessor.specs.declared.processor.Processor.{Processor}
pub use Rattle.multiprocessor.specs.Cores.{core_state, core_states, store_of}
pub use Rattle.std.specs.Option.{option_map}
pub use Rattle.std.specs.List.{last_or, list_any, sum_by}
pub use Rattle.tso_terms.specs.ProgramOrder.{writes_to}
pub use Rattle.tso_terms.specs.FlatMachine.{CoreState, Effect, stalled, memory_after, stored, State, chosen, core_of, idle, effect_by}
pub use Rattle.tso_terms.specs.FlatMachine.{step_of, effect_of, program_of, started, is_none_pending}
pub use Rattle.basic_laws.specs.Types.{Reg, Loc, Update, Entry, Core, Outcome, Committed, Stalled, Buffered, Moved, W, R, F, LR, LW}
pub use Rattle.basic_laws.specs.Types.{NoMemory, Split, Atomic, Choice, Bus, Instr, Action, Step, Drain, Kind}
pub use Rattle.store_buffer.specs.declared.Pending.{Pending}
pub use Rattle.store_buffer.specs.inner.Newest.{newest_for}
pub use Rattle.snoop_bus.specs.declared.access.AccessReport.{AccessReport}
pub use Rattle.snoop_bus.specs.Bus.{BusModel, words_of, IsSameMachine, cores_of, IsFree}
pub use Rattle.snoop_bus.specs.Accesses.{LoadsAt, WritesAt, CompletesAt, awaited_of, IsCurrentWord}
pub use Rattle.multiprocessor.specs.declared.accesses.CacheUse.{CacheUse}
pub use Rattle.multiprocessor.specs.declared.accesses.CacheUse.TheVariants.{Unused, Forwarded, Asked, Through}
pub use Rattle.multiprocessor.specs.inner.Cores.{pending_in, effect_of_lock, effect_of_drain, effect_of_store, action_by, both_parts}
pub use Rattle.multiprocessor.specs.inner.Cores.{at_next, word_on_bus, own_access, step_by, effect_of_fence, buffered_entries}
pub use Rattle.multiprocessor.specs.Caches.{Caches, caches_of, not_through, load_after, use_of, Used, at_access, ask_by}
pub use Rattle.multiprocessor.specs.Caches.{is_awaited, used_between, completion_by, use_by_kind, use_with, whole_by, asking_by}
pub use Rattle.multiprocessor.specs.Effects.{HasUsed, ChoiceAnswer}
pub use Rattle.basic_laws.proofs.WithPending.{drain_with, fenced_with, locked_with}
pub use Rattle.tso_terms.specs.MemoryAccess.{MemoryAccess, NoAccess, Writes, drain_access, store_access, Reads, load_access, locked_access}
pub use Rattle.tso_terms.specs.MemoryAccess.{Locks, access_of, access_by, step_access}
pub use Rattle.commit_order.specs.inner.Noted.{Noted}
pub use Rattle.multiprocessor.specs.declared.turn.Way.{Way}
pub use Rattle.multiprocessor.specs.declared.turn.Way.TheVariants.{Whole, Asked}
pub use Rattle.multiprocessor.specs.declared.turn.Turn.{Turn}
pub use Rattle.multiprocessor.specs.inner.Effects.{MayMakeBy, MayMake, MayAccess}
pub use Rattle.multiprocessor.specs.inner.Turns.{HasAsked, whole}
pub use Rattle.multiprocessor.specs.inner.OneCore.{HasActed, Waits, IsMade, IsStored, Acts, SucceedsUnlessCommitting, Notes}
pub use Rattle.tso_terms.specs.Thread.{entry, value_in, with_value, value_of, updated}
pub use Rattle.tso_terms.specs.Litmus.{Litmus, IsTest, KnownLocation}
pub use Rattle.tso_terms.specs.SplitMachine.{Holder, Free, HeldBy, HeldBetween, Attempt, BusEffect, acts, asks, begins, completes, writes_last, as_read}
pub use Rattle.tso_terms.specs.EitherBus.{BusState, effect_on}
pub use Rattle.tso_laws.specs.Holders.{HolderFits, HasRead}
pub use Rattle.multiprocessor.specs.Keeping.{IsAtMost, IsCore}
pub use Rattle.snoop_bus.specs.Held.{holder_in, transaction_in}
pub use Rattle.snoop_bus.specs.Asks.{awaited_in, Awaited, asking, asked_for, completed, completed_in, flusher_of, request_for, awaited_as, whole_in}
unfoldable pub use Rattle.snoop_bus.specs.Asks.{awaiting}
pub use Rattle.tso_terms.specs.Actions.{action_of}
pub use Rattle.tso_terms.specs.declared.action.Action.TheVariants.{Store, Load, Move, Fence, Lock}
pub use Rattle.std.proofs.lemmas.List.Elements.{All-set, All-append, All-drop, All-head, All-tail, All-weaker}
pub use Rattle.tso_terms.specs.Limits.{most_instructions}
pub use Rattle.protocol_tables.specs.Tables.{Table}
pub use Rattle.snoop_bus.specs.Rows.{table_of_rows}
pub use Rattle.cache_set.specs.CacheTags.{TagSets, sends_in, flusher_from, tags_at}
pub use Rattle.multiprocessor.specs.declared.counts.Counts.{Counts}
pub use Rattle.multiprocessor.specs.Statistics.{no_counts, with_access, with_write_back, with_forward, with_flush, counts_at_core}
pub use Rattle.multiprocessor.specs.Statistics.{flush_counted, with_use_counted, Statistics}
pub use Rattle.multiprocessor.specs.inner.Keeping.{HasIssuedItsStores, IsAmong, IsFlusherAmong, IsUncounted, done_by, IsSenderAmong}
pub use Rattle.multiprocessor.specs.inner.Keeping.{IsTallied, done_in, half_done, most_counted}
pub use Rattle.store_buffer.specs.inner.Stores.{stores}
pub use Rattle.snoop_bus.specs.inner.Accesses.{MayGoOn, memory_words_of}
pub use Rattle.tso_laws.proofs.Ways.{if-by, begins-by, completes-by, split-by}
