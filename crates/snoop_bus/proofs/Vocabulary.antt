-- The names that the proofs of this crate bring in from definitions and from crates below; each file takes its own from here.
pub use Rattle.std.proofs.lemmas.Bool.Decides.{eqb_tells, nat_tests}
pub use Rattle.std.proofs.Common.{arith, ◌≡◌, ◌≢◌, ◌⊎◌, inl, inr, ℕ, ◌<◌, ◌≤◌, nat_eq, true, false, Bool, None, refl, Option, Some, sym, ap}
pub use Rattle.std.proofs.Common.{◌∙◌, zero, suc, cond, List, [], ◌∷◌, length, slice_set, option_map, ◌-◌, map, slice_get, if◌then◌else◌}
pub use Rattle.std.proofs.Common.{◌%◌, not, ◌||◌, slice_index_or, is_some, nat_lt, subst, IsSome, ◌+◌, ◌&&◌, drop, add-one, unwrap_or}
pub use Rattle.std.proofs.Common.{replicate, ◌*◌, ◌/◌, slice_index, ◌++◌, append_assoc, IfSome, IsTrue, rules, take}
pub use Rattle.protocol_tables.specs.declared.state.State.{State}
pub use Rattle.protocol_tables.specs.declared.state.State.TheVariants.{I, S, E, O, M}
pub use Rattle.protocol_tables.specs.Tables.{Table, snoop}
pub use Rattle.snoop_bus.specs.Rows.{table_column, column_entry, rows_of, filled_in, table_of_rows}
pub use Rattle.std.proofs.lemmas.Bool.{cases_eq, cases_lt, cases_Bool}
pub use Rattle.protocol_tables.specs.Laws.{is_dirty, in_place, WritesInPlace}
pub use Rattle.protocol_tables.specs.inner.Laws.{Shares, CleansByMemory, MayBecome, WritesBackDirty, Supplies, FillsExclusiveOnlyAlone, GivesUp}
pub use Rattle.protocol_tables.specs.declared.state.Snoop.{Snoop}
pub use Rattle.cache_set.specs.declared.Line.{Line}
pub use Rattle.cache_set.specs.Lines.{Words, line_in, word_in_lines, words_in_lines, offset_of, line_of_words, lines_of_words}
pub use Rattle.snoop_bus.specs.Coherent.{state_of_copy, may_share, Coherent}
pub use Rattle.snoop_bus.specs.inner.Requests.{copy_if, copy_left_by, with_next_state, after_request, after_request_in, SeenBelow}
pub use Rattle.snoop_bus.specs.inner.Requests.{after_request_if, SeenAt, LeftAt, LeftBelow, LeftByOthers, ChangesCopy, copy_left_if}
pub use Rattle.cache_set.specs.inner.Supplying.{supplied_of, Supplied}
pub use Rattle.cache_set.specs.inner.Cleaning.{clean_copy, words_if_dirty, cleaned_at, cleaned_below, clean_tag_at, clean_tag_below}
pub use Rattle.std.proofs.lemmas.List.{get_or-set_same, get_or-set_other, take-map, map-set, set-get_or, length-map, ext_get_or, set-set}
pub use Rattle.std.proofs.lemmas.List.{length-set, get_or_past, drop_more, get_or_default, with_items_is, replicate_more, take_all}
pub use Rattle.std.proofs.lemmas.List.{drop_all, append-nil}
pub use Rattle.cache_set.specs.Copies.{Sets, copy_in, copy_at, cache_of, tags_of, tags_in, set_at, in_set}
pub use Rattle.snoop_bus.specs.Bus.{current_words, words_among, AllCoherent, empty_caches, bus_with, BusModel, words_of, holder_of}
pub use Rattle.snoop_bus.specs.Bus.{program_words, IsSameMachine, IsFree, IsCoherent, cores_of}
pub use Rattle.snoop_bus.specs.CacheContents.{accessed, Accessed, departing, evicted_by, missing, moving_nothing, requested_by}
pub use Rattle.snoop_bus.specs.inner.CacheContents.{was_written_back}
pub use Rattle.cache_set.specs.CacheTags.{TagSets, tag_in, tags_at, at_line, sets_of, at_others, requested, is_held, used_by, filled_by}
pub use Rattle.cache_set.specs.CacheTags.{flusher_from, first_supplier, states_by_core, sends_in, writes_back, dirty_in, at_core}
pub use Rattle.snoop_bus.specs.Asks.{tag_at, asked_memory, hits, request_for, asked_for, asked_caches, or_invalid, awaited_in}
pub use Rattle.snoop_bus.specs.Asks.{completed_memory, completed_memory_in, asking, completed, in_halves, with_request, supplier_in}
pub use Rattle.snoop_bus.specs.Asks.{moved_in, next_in_place, awaited_as, whole_access, whole_in, whole_memory, whole_memory_in}
unfoldable pub use Rattle.snoop_bus.specs.Asks.{awaiting, requesting}
pub use Rattle.std.specs.Map.{remove_entry, lookup}
pub use Rattle.std.proofs.lemmas.Option.{slice_get-map, slice_get-get_or}
pub use Rattle.cache_set.specs.declared.Victim.{Victim}
pub use Rattle.cache_set.specs.Contents.{Contents, copy_of, victim_of, as_victim, contents}
pub use Rattle.cache_set.specs.inner.Contents.{to_front, with_new, with_changed, changed_at, without, IsCacheSet, after_fill, NoLineTwice}
pub use Rattle.cache_set.specs.inner.Copy.{copy_with, with_state, with_word}
pub use Rattle.cache_set.specs.Tags.{tag_set, tag_of, used, filled, leaving, restated, removed, in_next, TagSet, snooped}
pub use Rattle.std.specs.List.{list_any, range_with_len}
pub use Rattle.std.proofs.Math.ListN.{get_or-map}
pub use Rattle.std.proofs.Math.Seq.{map-set_same, drop-cons, drop-length}
pub use Rattle.cache_set.specs.inner.Copies.{ways_of, OnlyAt, AtHome, emptied, copy_state_in}
pub use Rattle.std.specs.Option.{option_or, option_copied}
pub use Rattle.basic_laws.specs.Types.{Core, Loc}
pub use Rattle.tso_terms.specs.Limits.{most_cores}
pub use Rattle.snoop_bus.specs.declared.access.AccessKind.TheVariants.{Hit, Miss}
pub use Rattle.snoop_bus.specs.MemoryAfter.{victim_at, written_back, flushed, sent_words, sent_of}
pub use Rattle.protocol_tables.specs.declared.requests.Request.{Request}
pub use Rattle.protocol_tables.specs.declared.requests.Request.TheVariants.{GetS, GetM}
pub use Rattle.std.proofs.lemmas.List.FromFn.{length-map-range_with_len, get_or-map-range_with_len, map-range_with_len_more, fill_by_all}
pub use Rattle.std.proofs.lemmas.Nat.{div-add-mod', div_below, div-mul-add, mod-mul-add, mod_below, mul-le}
pub use Rattle.cache_set.specs.Limits.{most_words}
pub use Rattle.std.specs.Int.{div_ceil}
pub use Rattle.cache_set.specs.Geometry.{Geometry}
pub use Rattle.snoop_bus.specs.inner.Bus.{HasWholeLines, IsBus}
pub use Rattle.snoop_bus.specs.declared.access.Updated.{Updated}
pub use Rattle.snoop_bus.specs.declared.hierarchy.Hierarchy.{Hierarchy}
pub use Rattle.snoop_bus.specs.declared.holding.HeldBus.{HeldBus}
pub use Rattle.snoop_bus.specs.Held.{counted_copies_of, with_copy, with_counted_copy, stage_for, holder, holder_in, counted_in}
pub use Rattle.snoop_bus.specs.inner.Held.{request_in, IsHeld, IsPlaced, Awaits, held_by, AskedOf, kept_by, kept_words}
pub use Rattle.snoop_bus.specs.inner.Accessing.{KeepsWords, SetsWord, Updates, IsReady, Acquires, Loads, Writes, IsMadeWhole, KeepsBeside}
pub use Rattle.snoop_bus.specs.declared.access.AccessReport.{AccessReport}
pub use Rattle.snoop_bus.specs.declared.access.BusRequest.{BusRequest}
pub use Rattle.snoop_bus.specs.declared.access.Departure.{Departure}
pub use Rattle.snoop_bus.specs.declared.access.Supplier.{Supplier}
pub use Rattle.cache_set.specs.inner.Tags.{clean, cleaned}
pub use Rattle.protocol_tables.specs.declared.requests.Transient.TheVariants.{IsD, ImD, SmD}
pub use Rattle.snoop_bus.specs.inner.Asks.{transaction_of, transaction_at}
unfoldable pub use Rattle.snoop_bus.specs.inner.Asks.{transacting}
pub use Rattle.protocol_tables.specs.Transients.{transient_of}
pub use Rattle.protocol_tables.specs.declared.requests.Transient.{Transient}
pub use Rattle.snoop_bus.specs.declared.holding.Transaction.{Transaction}
pub use Rattle.snoop_bus.specs.declared.holding.Stage.{Stage}
pub use Rattle.snoop_bus.specs.declared.holding.Stage.TheVariants.{Load, Write, Locked}
pub use Rattle.snoop_bus.specs.inner.Accesses.{StandsAlone, MayGoOn, ranked_in, IsClean}
pub use Rattle.snoop_bus.specs.Accesses.{IsCurrentWord, CompletesAt, new_bus, LoadsAt, WritesAt, KeepsHolder, AsksFor, contents_of}
pub use Rattle.snoop_bus.specs.Accesses.{line_of_location, load_of, write_of, would_hit, ask_of, completion_of, with_words}
pub use Rattle.snoop_bus.specs.inner.Completing.{words_due, Completes, completion_at}
pub use Rattle.std.proofs.lemmas.Grind.{div_ceil_times}
pub use Rattle.std.proofs.lemmas.List.Edits.{map_over_more}
pub use Rattle.cache_set.specs.Requests.{snoop_column}
