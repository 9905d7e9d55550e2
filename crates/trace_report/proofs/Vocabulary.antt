-- The names that the proofs of this crate bring in from definitions and from crates below; each file takes its own from here.
pub use Rattle.std.proofs.Common.{◌≡◌, ◌∙◌, ℕ, ◌+◌, ◌<◌, ◌≤◌, List, [], ◌∷◌, ◌++◌, length, take, drop, get_or, codes, Option, Some, sym, ap}
pub use Rattle.std.proofs.Common.{append_assoc, append-nil, arith, Bool, true, false, if◌then◌else◌, refl, zero, suc, nat_lt, None, subst}
pub use Rattle.std.proofs.Common.{length-append, ◌*◌, ◌/◌, IfSome, All, slice_get, slice_index, slice_index_or, inl, inr, ◌==◌, ◌%◌, ◌-◌}
pub use Rattle.std.proofs.Common.{option_map, min, get_or-set_same, ◌⊎◌, ◌≢◌, ◌&&◌, map, replicate, not, ◌||◌, slice_set}
pub use Rattle.std.proofs.Common.{is_some, rules, string_bytes, Global, Vec, IfOk}
pub use Rattle.std.proofs.lemmas.Bool.{cases_Bool, or_parts}
pub use Rattle.std.proofs.Math.ListN.{drop_of_length-le, length-set}
pub use Rattle.std.proofs.lemmas.List.{drop_more, get_or-take, length-take, get_or_past, length-replicate, length-map, set-get_or}
pub use Rattle.std.proofs.lemmas.List.{drop-set-lt, take_more_set, with_items_is, drop_all, length-drop, take_more}
pub use Rattle.std.proofs.lemmas.List.{take_all}
pub use Rattle.tso_terms.specs.Litmus.{Litmus, IsTest, IsProgram, KnownLocation}
pub use Rattle.trace_report.specs.Lines.{after_plus, joined_by_plus, line_name, stall_name, changes_text, entries_text}
pub use Rattle.trace_report.specs.Lines.{later_stores, access_name, state_name, names_in_line, store_text, printed_core, printed_move}
pub use Rattle.trace_report.specs.Lines.{printed_change, printed_request, transient_name}
pub use Rattle.std.specs.List.{list_any}
pub use Rattle.tso_terms.specs.ProgramOrder.{writes_to}
pub use Rattle.tso_terms.specs.MemoryAccess.{MemoryAccess, NoAccess, Reads, Writes, Locks, access_of, next_of, access_by, step_access}
pub use Rattle.tso_terms.specs.MemoryAccess.{load_access, locked_access, store_access, drain_access}
pub use Rattle.basic_laws.specs.Types.{Entry, Kind, R, W, F, LR, LW, Bus, Atomic, Split, Instr, Action, Choice, Step, Drain, Outcome}
pub use Rattle.basic_laws.specs.Types.{Committed, Buffered, Moved, Stalled, Stall, Loc, Core, Reg}
pub use Rattle.multiprocessor.specs.Caches.{Caches, not_through, asking_by, completing_by, use_by_kind, use_of, used_between, is_awaited}
pub use Rattle.multiprocessor.specs.Caches.{use_on, state_after_on, Used, hits_by, would_hit, attempt_of, at_access, through}
pub use Rattle.multiprocessor.specs.Caches.{whole_by}
pub use Rattle.multiprocessor.specs.declared.accesses.CacheUse.TheVariants.{Forwarded, Unused, Through}
pub use Rattle.tso_terms.specs.Actions.{action_of, location_of}
pub use Rattle.tso_terms.specs.FlatMachine.{CoreState, State, Effect, is_none_pending, stalled, stored, effect_by, effect_of, core_of}
pub use Rattle.tso_terms.specs.FlatMachine.{chosen, program_of, applied, start, idle, step_of, load_value, after_choice, memory_after}
pub use Rattle.basic_laws.proofs.WithPending.{drain_with}
pub use Rattle.tso_terms.specs.SplitMachine.{Holder, Free, HeldBy, HeldBetween, Attempt, needs_bus, acts, asks, begins}
pub use Rattle.tso_terms.specs.SplitMachine.{completes, as_read, after_first, writes_last, split_effect, load_part, BusEffect}
pub use Rattle.tso_terms.specs.EitherBus.{BusState, effect_on, BusRun, unheld, then_on, resting_on, run_on, run_on_from, choices_in}
pub use Rattle.tso_terms.specs.declared.action.Action.TheVariants.{Store, Load, Move, Fence, Lock}
pub use Rattle.tso_laws.proofs.Following.{needs-some}
pub use Rattle.tso_laws.proofs.BusStopping.{ended-free}
pub use Rattle.tso_laws.proofs.Ways.{IsOther, if-by, begins-by, completes-by, split-by, effect-by}
pub use Rattle.tso_laws.proofs.Steps.{IsStore}
pub use Rattle.trace_report.specs.TraceLaws.{committed_at, committed_in, stalls_in, TellsRun, run_traced, is_of, laid_in, with_changes}
pub use Rattle.trace_report.specs.TraceLaws.{ChangesOne, ChangesLeadFromStatesToStates, count_of_accesses, is_kind, is_access_of_kind}
pub use Rattle.trace_report.specs.TraceLaws.{tells_access, tells_forward, one_if, steps_that, KeepsNoCopyInI, is_sender, tells_flush}
pub use Rattle.trace_report.specs.TraceLaws.{tells_write_back, ProtocolsKeepNoCopyInI, AccessesAreTold}
pub use Rattle.trace_report.specs.inner.Steps.{waited_before}
pub use Rattle.std.specs.Int.{div_ceil}
pub use Rattle.std.proofs.lemmas.Grind.{div_ceil_times}
pub use Rattle.std.proofs.Math.Nat.{div-mul-le_self, mul-le-mul_right, add-mul}
pub use Rattle.std.proofs.lemmas.List.Elements.{All-nil, All-cons, All-head, All-tail, All-push, All-drop, All-append, All-weaker}
pub use Rattle.tso_terms.specs.Thread.{entry, fence, value_in, value_of, updated}
pub use Rattle.std.specs.Prelude.{filter, Ok}
pub use Rattle.order_builder.specs.PrintedOrder.{HasLocation, IsLocationFor, printed_entry}
pub use Rattle.tso_laws.proofs.Cores.{core-cases, quiet-same}
pub use Rattle.basic_laws.proofs.Cores.{starts-idle, length-starts}
pub use Rattle.trace_report.specs.Known.{IsAt, IsLine, AreStoresKnown, StepNamesExist}
pub use Rattle.std.proofs.lemmas.Bool.Decides.{nat_tests, eqb_tells}
pub use Rattle.snoop_bus.specs.Asks.{Awaited, tag_at, or_invalid, asking, completed, completed_in, asked_caches_in, asked_for}
pub use Rattle.snoop_bus.specs.Asks.{next_in_place, awaited_as, request_for, whole_in, whole_access}
unfoldable pub use Rattle.snoop_bus.specs.Asks.{awaiting, requesting}
pub use Rattle.machine_core.specs.Running.{Running, attempt_on, machine_use, machine_after, new_machine, machine_effect}
pub use Rattle.multiprocessor.specs.declared.accesses.CacheUse.{CacheUse}
pub use Rattle.trace_report.specs.Steps.{sent_by, sent_with, left_in, written_line, line_states, placed_states_from, number_of_lines}
pub use Rattle.trace_report.specs.Steps.{states_of, number_of_state, change_of, changes_in, among, buffer_if_changed, moved_by, placed}
pub use Rattle.trace_report.specs.Steps.{is_forwarded, access_kind_in, moved_from, nothing_sent, moved_at, steps_from, trace_of, state_with}
pub use Rattle.trace_report.specs.Steps.{awaited_at, line_state}
unfoldable pub use Rattle.trace_report.specs.Steps.{trace_step_of}
pub use Rattle.trace_report.specs.declared.step.LineRequest.{LineRequest}
pub use Rattle.trace_report.specs.declared.step.StateChange.{StateChange}
pub use Rattle.trace_report.specs.declared.states.PlacedState.{PlacedState}
pub use Rattle.std.specs.Option.{option_and_then, unwrap_or}
pub use Rattle.snoop_bus.specs.declared.access.AccessKind.{AccessKind}
pub use Rattle.cache_set.specs.Geometry.{Geometry, IsLineSize}
pub use Rattle.basic_laws.proofs.Basics.{test-true, lt-or, test-false, and-false}
pub use Rattle.multiprocessor.specs.Configuration.{Configuration}
pub use Rattle.trace_report.specs.Shown.{ShownStep, shown_step}
pub use Rattle.trace_report.specs.Told.{IsTraced, IsTracedInStates}
pub use Rattle.trace_report.specs.inner.Left.{stores_on, waited_on, IsLeftBy}
pub use Rattle.trace_report.specs.declared.sending.Sent.{Sent}
pub use Rattle.trace_report.specs.Stalls.{stalled_step}
pub use Rattle.protocol_tables.specs.Tables.{Table, filled_by_sharing, written_in_place, table_of}
pub use Rattle.tso_terms.specs.Runs.{Run, has_ended, stall_count, then_run, run, CoresExist}
pub use Rattle.multiprocessor.specs.Statistics.{no_statistics, Statistics, no_counts, with_access, with_forward, with_write_back}
pub use Rattle.multiprocessor.specs.Statistics.{with_flush, counts_at_core, flush_counted, with_use_counted, statistics_from}
pub use Rattle.basic_laws.proofs.Lists.{Each, each-append, each-at}
pub use Rattle.protocol_tables.specs.declared.requests.Transient.TheVariants.{IsD, ImD, SmD}
pub use Rattle.trace_report.specs.declared.step.LineState.{LineState}
pub use Rattle.snoop_bus.specs.declared.access.AccessKind.TheVariants.{Hit, Upgrade, Miss}
pub use Rattle.multiprocessor.specs.declared.counts.Counts.{Counts}
pub use Rattle.multiprocessor.proofs.CountBounds.{length-counted}
pub use Rattle.multiprocessor.proofs.Advancing.{last-unused}
pub use Rattle.protocol_tables.specs.Transients.{transient_of}
pub use Rattle.protocol_tables.specs.declared.requests.Request.{Request}
pub use Rattle.protocol_tables.specs.declared.requests.Request.TheVariants.{GetS, GetM}
pub use Rattle.protocol_tables.specs.declared.requests.Transient.{Transient}
pub use Rattle.snoop_bus.specs.Rows.{table_of_rows, rows_of}
pub use Rattle.cache_set.specs.CacheTags.{TagSets, tags_at, tag_in, at_line, sets_of, dirty_in, writes_back, used_by, at_others}
pub use Rattle.cache_set.specs.CacheTags.{requested, at_core}
pub use Rattle.tso_laws.proofs.BusWaiting.{AllStores, access-kept, choice-stores, start-stores}
pub use Rattle.tso_laws.proofs.Effects.{HolderWaits, LiveIn, live-after, live-start}
pub use Rattle.protocol_tables.specs.declared.state.State.TheVariants.{I, E, O, M}
pub use Rattle.cache_set.specs.Tags.{TagSet, tag_of, used, filled, in_next, snooped_in, snooped, leaving}
pub use Rattle.machine_core.specs.Uses.{IsUseFor}
pub use Rattle.machine_core.proofs.Victims.{no_set, AllNeat, found-valid, all-requested, all-used, all-filled, absent-remove, own-kept}
pub use Rattle.machine_core.proofs.Victims.{IsNeat, none-neat, no-sets, sets-leave}
pub use Rattle.machine_core.proofs.Counted.{choice-use}
pub use Rattle.cache_set.specs.Requests.{snoop_column}
pub use Rattle.cache_set.specs.Copies.{tags_in}
pub use Rattle.trace_report.specs.StepLaws.{WriteBacksAreTold, after_choices, with_moved, pending_told, CoresAreTold, IsWordOfStall, done}
pub use Rattle.trace_report.specs.StepLaws.{full, lock, empty, IsHeldByOther, IsWordOfStallOn, flat, bus, StallsAreTold, with_seen}
pub use Rattle.trace_report.specs.StepLaws.{OthersSeeTheRequest}
pub use Rattle.multiprocessor.specs.inner.Keeping.{IsAmong, IsFlusherAmong, IsSenderAmong}
pub use Rattle.serde_json.specs.Data.{Data, boolean, string, Members, no_members, put, array, object}
pub use Rattle.serde_json.specs.View.{items_of, view}
pub use Rattle.serde_json.specs.Written.{has_float, items_have_float, members_have_float}
pub use Rattle.protocol_tables.specs.declared.kind.ProtocolKind.{ProtocolKind}
pub use Rattle.snoop_bus.specs.declared.looking.CachedLine.{CachedLine}
pub use Rattle.machine_core.specs.Looking.{bus_holder_of, bus_holder_as}
pub use Rattle.tso_report.specs.Json.{count, memory_value, order_value, registers_value}
pub use Rattle.trace_report.specs.JsonValues.{array_of_numbers, text_or_null, array_of_texts}
pub use Rattle.trace_report.specs.OwnWords.{own_words, is_newer_in, own_word, own_words_from, is_newer}
pub use Rattle.trace_report.specs.MachineJson.{words_per_line, words_in_line, words_on_bus, copy_json, cached_lines_in, set_json, sets_json}
pub use Rattle.trace_report.specs.MachineJson.{core_json, cores_json, holder_json, bus_json, machine_json, core_with}
pub use Rattle.trace_report.specs.StepJson.{outcome_word, stall_in, step_json}
pub use Rattle.trace_report.specs.Supplied.{supplier_text, source_of, source_in, found_by, supplied_by}
pub use Rattle.trace_report.specs.TraceJson.{Sourced, sourced_by, last_or, last_step_json, step_to, steps_json, start_json, trace_json, alone}
pub use Rattle.trace_report.specs.declared.supplied.Source.{Source}
pub use Rattle.tso_terms.specs.Condition.{Condition, condition_of}
pub use Rattle.scheduler.specs.Printed.{printed_choice}
pub use Rattle.trace_report.specs.ProgramsJson.{instruction_text, program_value, programs_value}
pub use Rattle.trace_report.specs.TracedRun.{with_trace_value}
pub use Rattle.std.proofs.lemmas.Option.{unwrap_or-slice_get}
pub use Rattle.serde_json.specs.declared.value.Value.{Value, the_lemmas}
pub use Rattle.trace_report.specs.inner.Looked.{IsMachineOfTest, told_last, sourced, trace_with}
pub use Rattle.trace_report.specs.inner.Told.{IsLookedAt}
pub use Rattle.trace_report.specs.SupplyLaws.{SourcesAreTold}
