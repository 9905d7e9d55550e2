-- The names that the proofs of this crate bring in from definitions and from crates below; each file takes its own from here.
pub use Rattle.std.proofs.Common.{◌≡◌, ◌<◌, ◌≤◌, ◌+◌, ℕ, zero, suc, nat_lt, Bor, List, [], ◌∷◌, length, Option, None, Some, is_some, IfSome}
pub use Rattle.std.proofs.Common.{option_copied, slice_get, slice_index_or, refl, sym, ap, ◌∙◌, arith, map, slice_set, subst, ◌==◌, Bool}
pub use Rattle.std.proofs.Common.{true, false, if◌then◌else◌, filter, ◌++◌, append-nil, IsTrue, Result, ◌≢◌, Ok, Err, IfOk, OnOk, OnErr}
pub use Rattle.std.proofs.Common.{inr, inl, All, ◌-◌, ◌⊎◌, length-set, replicate, take, ◌&&◌, not, IsOk, rules, ◌↔◌, ◌/◌, ◌%◌, nat_eq}
pub use Rattle.std.proofs.Common.{get_or-set_same, get_or-set_other, drop, length-append, slice_index, drop-cons, add-one}
pub use Rattle.std.proofs.lemmas.Bool.{cases_Bool, eq-eqb}
pub use Rattle.std.proofs.lemmas.Bool.Decides.{nat_tests, eqb_tells}
pub use Rattle.std.proofs.lemmas.Option.{slice_get_past, slice_get_read, slice_get_within}
pub use Rattle.multiprocessor.specs.declared.processor.Processor.{Processor}
pub use Rattle.multiprocessor.specs.Cores.{core_state, core_states, state_of_cores, AreKnown}
pub use Rattle.std.specs.Option.{option_map, IsSome}
pub use Rattle.tso_terms.specs.ProgramOrder.{same_kind, writes_to}
pub use Rattle.tso_terms.specs.FlatMachine.{chosen, core_of, start, CoreState, Effect, stalled, memory_after, after_choice, idle, effect_by}
pub use Rattle.tso_terms.specs.FlatMachine.{step_of, effect_of, program_of, advanced_with, started, drain_of}
pub use Rattle.basic_laws.specs.Types.{Reg, Loc, Entry, Committed, Stalled, W, LR, NoMemory, Choice, Bus, Instr, Action, Step, Drain, Kind}
pub use Rattle.basic_laws.specs.Types.{Update, Core, Outcome, LW, Split, Atomic}
pub use Rattle.snoop_bus.specs.Bus.{BusModel, words_of, holder_of, IsFree, AllCoherent, counted_copies, IsSameMachine, cores_of}
pub use Rattle.snoop_bus.specs.Accesses.{AsksFor, CompletesAt, awaited_of, contents_of, memory_of, would_hit, line_of_location, new_bus}
pub use Rattle.multiprocessor.specs.inner.Cores.{at_start, pending_in, effect_of_drain, action_by, own_access, step_by}
pub use Rattle.multiprocessor.specs.Caches.{Caches, not_through, load_after, use_of, Used, at_access, hits_by, is_awaited, used_between}
pub use Rattle.multiprocessor.specs.Caches.{attempt_of, whole_by, caches_of, ask_by, completing_by, completion_by}
pub use Rattle.multiprocessor.specs.Effects.{ChoiceAnswer, HasUsed}
pub use Rattle.machine_core.specs.Effects.{HasEffect}
pub use Rattle.tso_terms.specs.MemoryAccess.{MemoryAccess, NoAccess, drain_access, store_access, load_access, locked_access, access_of}
pub use Rattle.tso_terms.specs.MemoryAccess.{access_by, step_access, next_of, Writes, Reads, Locks}
pub use Rattle.machine_core.specs.inner.Effects.{attempt_in, effect_in, flat_effect_in, MayMakeIn}
pub use Rattle.multiprocessor.specs.inner.OneCore.{SucceedsUnlessCommitting, HasActed, Acts, AreUnchanged}
pub use Rattle.std.proofs.lemmas.List.{length-map, with_items_is, get_or_past, set-get_or, length-replicate}
pub use Rattle.tso_terms.specs.Litmus.{Litmus, IsTest, KnownLocation}
pub use Rattle.tso_terms.specs.SplitMachine.{Free, Attempt, Holder, HeldBy, HeldBetween, BusEffect, acts, asks, needs_bus, same_choice}
pub use Rattle.tso_terms.specs.SplitMachine.{begins, completes, as_read, split_effect, reads_first, after_first}
pub use Rattle.tso_terms.specs.EitherBus.{BusState, HitFits, effect_on, unheld, after_on}
pub use Rattle.snoop_bus.specs.declared.holding.Stage.TheVariants.{Locked}
pub use Rattle.machine_core.specs.declared.hardware.Hardware.{Hardware}
pub use Rattle.multiprocessor.specs.Keeping.{IsCore, held_for, core_in, IsAtMost}
pub use Rattle.machine_core.specs.Keeping.{IsHeldForAccess, held_as, state_in, HardwareFitsTest, holder_by}
pub use Rattle.machine_core.specs.inner.OneChoice.{use_in, statistics_next, IsAloneIn, effect_made_in}
pub use Rattle.snoop_bus.specs.Held.{holder}
pub use Rattle.snoop_bus.specs.Asks.{awaited_in, Awaited, completed, completed_in, request_for, awaited_as, whole_in, hits, tag_at}
pub use Rattle.snoop_bus.specs.Asks.{or_invalid, asked_caches_in, awaited_by, completed_memory, completed_memory_in, in_halves}
pub use Rattle.snoop_bus.specs.Asks.{next_in_place, to_fill, asked_memory, whole_access, whole_memory, whole_memory_in, asked_at_once}
unfoldable pub use Rattle.snoop_bus.specs.Asks.{awaiting}
pub use Rattle.protocol_tables.specs.Tables.{Table, table_of, is_written_back, filled_by_sharing, get_s_flushing, get_s_owning}
pub use Rattle.snoop_bus.specs.Rows.{table_of_rows, rows_of}
pub use Rattle.snoop_bus.specs.CacheContents.{Accessed}
pub use Rattle.cache_set.specs.CacheTags.{TagSets, tags_at, tag_in, at_line, sets_of, at_core, at_others, requested, used_by, filled_by, is_held}
pub use Rattle.multiprocessor.specs.Statistics.{no_counts, Statistics, no_statistics, statistics_with, statistics_after, with_use_counted}
pub use Rattle.machine_core.specs.inner.Keeping.{statistics_in}
pub use Rattle.snoop_bus.specs.inner.Accesses.{StandsAlone}
pub use Rattle.tso_laws.specs.BusChoices.{IsPossibleOn}
pub use Rattle.tso_laws.specs.Between.{IsAnswered, ArePaired}
pub use Rattle.machine_core.specs.Running.{Running, machine_after, AnswerFits, restarted, machine_effect, machine_use}
pub use Rattle.std.specs.Result.{is_err}
pub use Rattle.machine_core.specs.inner.Running.{HasFailed, is_ended}
pub use Rattle.protocol_tables.specs.Laws.{is_dirty}
pub use Rattle.protocol_tables.specs.declared.state.State.{State}
pub use Rattle.protocol_tables.specs.declared.state.State.TheVariants.{I, O, M}
pub use Rattle.cache_set.specs.Lines.{Words, line_in}
pub use Rattle.snoop_bus.specs.Coherent.{state_of_copy, may_share}
pub use Rattle.cache_set.specs.Copies.{Sets, copy_at, copy_in, tags_of, cache_of, set_at}
pub use Rattle.basic_laws.proofs.Basics.{lt-or, decide}
pub use Rattle.machine_core.specs.Owners.{IsOwner}
pub use Rattle.machine_core.specs.Uses.{IsUseFor, IsHitUse, use_at}
pub use Rattle.std.specs.Map.{lookup, remove_entry}
pub use Rattle.protocol_tables.specs.declared.state.Snoop.{Snoop}
pub use Rattle.cache_set.specs.Tags.{TagSet, tag_set, tag_of, used, filled, leaving, restated, in_next, snooped, snooped_in}
pub use Rattle.protocol_tables.specs.declared.kind.ProtocolKind.{ProtocolKind}
pub use Rattle.cache_set.specs.declared.Line.{Line}
pub use Rattle.cache_set.specs.declared.Victim.{Victim}
pub use Rattle.snoop_bus.specs.MemoryAfter.{written_back, flushed, sent_of, first_of_two, sent_words, victim_at}
pub use Rattle.snoop_bus.proofs.StateLemmas.{tag_at-copy}
pub use Rattle.protocol_tables.specs.declared.requests.Request.TheVariants.{GetS, GetM}
pub use Rattle.multiprocessor.specs.declared.accesses.CacheUse.{CacheUse}
pub use Rattle.multiprocessor.specs.declared.accesses.CacheUse.TheVariants.{Unused, Through}
pub use Rattle.basic_laws.proofs.WithPending.{locked_with}
pub use Rattle.commit_order.specs.inner.Noted.{Noted}
pub use Rattle.multiprocessor.specs.declared.turn.Way.{Way}
pub use Rattle.multiprocessor.specs.declared.turn.Way.TheVariants.{Whole, Asked}
pub use Rattle.multiprocessor.specs.declared.turn.Turn.{Turn}
pub use Rattle.multiprocessor.specs.inner.Effects.{MayMakeBy, MayAct}
pub use Rattle.multiprocessor.specs.inner.Turns.{HasAsked, by_way}
pub use Rattle.tso_terms.specs.Thread.{entry, value_in, updated}
pub use Rattle.tso_laws.specs.Holders.{HolderFits, HasRead}
pub use Rattle.multiprocessor.specs.declared.accesses.Next.{Next}
pub use Rattle.multiprocessor.specs.declared.accesses.Next.TheVariants.{Complete, Write}
pub use Rattle.machine_core.specs.Split.{use_by, completes_in}
pub use Rattle.machine_core.specs.inner.Split.{IsOther, needed_by, needed_in, IsAccessAmong, begins_in, split_effect_in, writes_last_in}
pub use Rattle.machine_core.specs.OneChoice.{HasMade, IsUndone, AreConsistent}
pub use Rattle.tso_terms.specs.Actions.{action_of}
pub use Rattle.tso_terms.specs.declared.action.Action.TheVariants.{Store, Load, Lock}
pub use Rattle.std.proofs.lemmas.List.Elements.{All-set, All-replicate}
pub use Rattle.tso_terms.specs.Limits.{most_instructions}
pub use Rattle.multiprocessor.specs.declared.counts.Counts.{Counts}
pub use Rattle.multiprocessor.specs.inner.Keeping.{HasIssuedItsStores, IsFlusherAmong, IsUncounted, IsTallied, done_in, most_counted, memory_access_in}
pub use Rattle.tso_terms.specs.Runs.{is_done, all_done}
pub use Rattle.store_buffer.specs.inner.Stores.{stores}
