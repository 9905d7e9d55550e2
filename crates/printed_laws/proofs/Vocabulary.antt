-- The names that the proofs of this crate bring in from definitions and from crates below; each file takes its own from here.
pub use Rattle.std.proofs.Common.{◌≡◌, ℕ, ◌^◌, ◌<◌, Bool, true, false, List, [], ◌∷◌, ◌++◌, get_or, drop, refl, sym, ap, subst, ◌∙◌, zero}
pub use Rattle.std.proofs.Common.{suc, ◌≤◌, Option, unwrap_or, arith, inl, inr, ◌+◌, length, slice_index, All, Some, None, is_some, ◌-◌}
pub use Rattle.std.proofs.Common.{◌==◌, cond, map, ◌≢◌, not, ◌||◌, ◌/◌, ◌%◌, lt-ltb, le-leb, ◌&&◌, slice_index_or, eq-eqb, Contains}
pub use Rattle.std.proofs.Common.{eqb-true, ◌⊎◌, if◌then◌else◌, ◌*◌, take, IfSome, nat_lt, slice_get, slice_set, append-nil}
pub use Rattle.std.specs.Fmt.{decimal, digits_onto, digit_glyph}
unfoldable pub use Rattle.std.specs.Fmt.{digits}
pub use Rattle.std.specs.List.{list_all, AllByRecursion, flat_map, range_with_len}
pub use Rattle.std.specs.Char.{is_ascii_digit}
pub use Rattle.std.proofs.lemmas.Bool.{and_parts, and_from}
pub use Rattle.std.proofs.lemmas.Fmt.{decimal_injective}
pub use Rattle.std.proofs.lemmas.List.{append_cancel_left, append_cancel_right, append_assoc, length-append, length-map, map-append}
pub use Rattle.std.proofs.lemmas.List.{drop_more, get_or-take, length-take, length-replicate}
pub use Rattle.json.specs.Json.{document, max_depth}
pub use Rattle.json.specs.Tree.{depth, HasNumbers, items_depth, members_depth, ItemsHaveNumbers, MembersHaveNumbers, json_tokens}
pub use Rattle.serde_json.specs.Data.{Data, string, Members, no_members, member, put, object, array}
pub use Rattle.serde_json.specs.Written.{outline, compact_text, items_outline, members_outline, members_text}
pub use Rattle.serde_json.proofs.Texts.{print-outline}
pub use Rattle.std.specs.Prelude.{codes, sum, count_by, max}
pub use Rattle.json.proofs.Printed.Decimals.{IsNumber-decimal}
pub use Rattle.tso_report.specs.Report.{line, bus_text, machine_line, head, printed_registers, register_lines, printed_words}
pub use Rattle.tso_report.specs.Report.{printed_quantifier, printed_truth, printed_verdict, choices_line, cache_line, cache_lines, report}
pub use Rattle.tso_report.specs.Report.{memory_line, condition_line, test_line, body}
unfoldable pub use Rattle.tso_report.specs.Report.{all_registers}
pub use Rattle.tso_report.specs.Json.{unfinished_run_value, count, counts_value, condition_value, with_bus, configuration_members}
pub use Rattle.tso_report.specs.Json.{machine_value, memory_members, registers_value, run_value, run_members, unfinished_members}
pub use Rattle.tso_report.specs.Json.{json_report, json_unfinished, memory_value}
pub use Rattle.printed_laws.specs.Telling.{UnfinishedRunsAreTold, NameTheSame, ReportsTellTheirRuns, SweepsTellTheirCounts}
pub use Rattle.printed_laws.specs.Telling.{ReportsTellTheirMachines, SweepsTellTheirMachines}
pub use Rattle.tso_terms.specs.Litmus.{Litmus, IsTest, are_distinct, IsProgram, KnownLocation, ConstantIsWord}
pub use Rattle.tso_laws.specs.WellFormed.{IsWellFormed}
pub use Rattle.tso_laws.proofs.WellFormed.{well-formed}
pub use Rattle.tso_terms.specs.Names.{is_printable, is_test_name, is_among, is_name, is_location_name, continues_name}
pub use Rattle.basic_laws.specs.Types.{Bus, Atomic, Split, Reg, Entry, Eax, Ebx, Ecx, Edx, Esi, Edi, Choice, Drain, Core, Loc, Kind, R, W}
pub use Rattle.basic_laws.specs.Types.{F, LR, LW, Stall, Committed, Buffered, Moved, Asked, Stalled, Instr}
pub use Rattle.basic_laws.specs.Types.{Action, Quantifier, Exists, NotExists, Forall}
pub use Rattle.protocol_tables.specs.Names.{protocol_name}
pub use Rattle.protocol_tables.specs.declared.kind.ProtocolKind.{ProtocolKind}
pub use Rattle.cache_set.specs.Geometry.{IsLineSize}
pub use Rattle.multiprocessor.specs.Configuration.{Configuration, IsConfigurationWithinLimits}
pub use Rattle.std.proofs.lemmas.List.Elements.{All-head, All-tail, All-contains, All-weaker, All-map, All-cons, All-nil, All-push, All-set}
pub use Rattle.std.proofs.lemmas.List.Elements.{All-filter, All-drop, All-append, All-take}
pub use Rattle.tso_terms.specs.Condition.{Condition, Claim, truth_of}
pub use Rattle.tso_terms.specs.Registers.{IsWord, AreRegisters, index_of, name_of}
pub use Rattle.tso_terms.specs.Thread.{value_in, entry, fence, value_of, updated}
pub use Rattle.multiprocessor.specs.Keeping.{IsAtMost}
pub use Rattle.multiprocessor.specs.declared.counts.Counts.{Counts}
pub use Rattle.order_builder.specs.PrintedOrder.{printed_order, printed_entry, printed_end, printed_lines, letters_of, printed_access, HasWord}
pub use Rattle.order_builder.specs.Spelling.{SpellsOrder, IsOrderFor, HasAccess, IsEntryFor}
pub use Rattle.tso_report.specs.Laws.{ReportSpellsItsOrder, ReportsAreShort}
pub use Rattle.tso_report.specs.Shown.{ShownRun}
pub use Rattle.tso_cli.specs.Fitting.{RunFitsTest, IsStateOf, shown_under, EndedRunsFit, ChoicesAreCounted, IsStateAt}
pub use Rattle.std.proofs.lemmas.List.Sums.{sum_by-cons, count_by-le-length}
pub use Rattle.tso_report.specs.declared.named.Named.{Named}
pub use Rattle.tso_report.specs.declared.named.Named.TheVariants.{Register, Location}
pub use Rattle.tso_report.specs.Tally.{RunCounts, looked_at, ended_in, printed_value, printed_values, counted_state_lines, sweep_line}
pub use Rattle.tso_report.specs.Tally.{frequency, observed_line, observation, tally_text, runs_in, named_register, named_registers}
pub use Rattle.tso_report.specs.Tally.{named_locations, ends_text}
pub use Rattle.std.specs.Ordering.{nat_cmp, match_ordering, is_eq}
pub use Rattle.std.specs.Cmp.Lexicographic.{slice_cmp}
pub use Rattle.std.specs.declared.cmp.Ordering.{Ordering}
pub use Rattle.std.specs.declared.cmp.Ordering.TheVariants.{Less, Equal, Greater}
pub use Rattle.serde_json.specs.View.{items_of}
pub use Rattle.std.specs.Str.{bytes_eq}
pub use Rattle.std.proofs.lemmas.Slice.Eq.{bytes_eq-Decides}
pub use Rattle.json.specs.Print.{escape, print, quoted, IsNumber}
unfoldable pub use Rattle.json.specs.Print.{escape_byte}
pub use Rattle.tso_terms.specs.Runs.{Run, run, has_ended, CoresExist}
pub use Rattle.tso_cli.specs.RunTexts.{report_in, unfinished_in}
pub use Rattle.machine_runs.specs.Runs.{run_under, counts_under}
pub use Rattle.printed_laws.specs.OfRuns.{PrintedRunsAreTold}
pub use Rattle.std.proofs.lemmas.Bool.Decides.{nat_tests}
pub use Rattle.std.proofs.lemmas.List.Folds.{list_all-append, list_any-append}
pub use Rattle.tso_report.specs.ShownNames.{is_shown, names_shown, values_at}
pub use Rattle.tso_report.specs.declared.show.Show.{Show}
pub use Rattle.search_report.specs.OutcomesJson.{key_of, states_value, observed_value, observation_value, value_members, holds_in}
pub use Rattle.search_report.specs.OutcomesJson.{with_holds, state_value, outcomes_value}
pub use Rattle.scheduler.specs.Printed.{printed_choice, printed_after, printed_choices}
pub use Rattle.search_report.specs.Outcomes.{Outcome, shown_values, outcomes_line, outcome_lines, condition_lines, held_in, failed_in}
pub use Rattle.search_report.specs.Outcomes.{true_in, is_met_in, printed_numbers, observation_line, true_line, by_line, state_line}
pub use Rattle.search_report.specs.Outcomes.{true_from}
pub use Rattle.search_report.proofs.Alike.{alike}
pub use Rattle.printed_laws.specs.Outcomes.{OutcomesTellTheirStates, OutcomesTellTheirTests, OutcomesFit, PrintedStatesFit}
pub use Rattle.search_report.specs.Verdict.{verdict_word, is_well, outcomes_verdict_value, verdict_line, is_met, is_as_claimed}
pub use Rattle.printed_laws.specs.Verdicts.{PrintsVerdict, EndsInNumbers, IsAsClaimed, IsNotAsClaimed, VerdictMeans, VerdictsAgree}
pub use Rattle.printed_laws.specs.Verdicts.{StatusTells, StatusTellsNoVerdict, TrueNamesTrueStates, HoldsTellsTrueStates}
pub use Rattle.search_report.specs.MetOutcomes.{unfinished_search_in}
pub use Rattle.search_report.specs.PrintedOutcomes.{outcomes_in}
pub use Rattle.printed_laws.specs.Observed.{EndsInWord, HasWordInObject, PrintsWord, IsSoEverywhere, IsSoSomewhere, IsSoNowhere, IsAlwaysSo}
pub use Rattle.printed_laws.specs.Observed.{IsSometimesSo, WordMeans}
pub use Rattle.relational_model.specs.Candidates.{Candidate}
pub use Rattle.refutation_laws.specs.Refutations.{asked_claim}
pub use Rattle.refutation_laws.specs.declared.model.Model.{Model}
pub use Rattle.search_report.specs.ReasonText.{model_name, truth_asked, asked_line, never_line, blanks, from_line, reads_of, coherence_lines, values_left}
pub use Rattle.search_report.specs.ReasonJson.{allowed_value, unfinished_reason_json}
pub use Rattle.tso_terms.specs.FinalState.{final_words, final_registers}
pub use Rattle.tso_terms.specs.FlatMachine.{registers_in, chosen, CoreState, State, Effect, is_none_pending, stalled, advanced_with, stored}
pub use Rattle.tso_terms.specs.FlatMachine.{load_value, effect_by, idle, program_of, core_of, effect_of, memory_after, applied, started}
pub use Rattle.tso_terms.specs.FlatMachine.{start, step_of}
pub use Rattle.tso_laws.specs.Outcomes.{IsEnd, EndsAreWhatTsoAllows}
pub use Rattle.litmus_tokens.specs.declared.instructions.Instructions.{Instructions}
pub use Rattle.litmus_reader.specs.Spelling.{SpellsTest}
pub use Rattle.search_report.specs.Laws.{TruthIsShown}
pub use Rattle.tso_cli.specs.Dividing.{parts_of}
pub use Rattle.tso_cli.proofs.FoundOutcomes.{Leads, made-of}
pub use Rattle.command_line.specs.Search.{Search}
pub use Rattle.tso_cli.specs.OutcomesHeadline.{shown_after, PrintsAllOutcomes, PrintsSomeOutcomes, HeadlineOfOutcomes, all, too_many, AreSomeOf, AreExactly}
pub use Rattle.refutation_laws.specs.declared.model.Model.TheVariants.{Tso, Sequential}
pub use Rattle.order_builder.proofs.NameLaws.{all_of_location, location_again}
pub use Rattle.protocol_tables.specs.declared.requests.Transient.TheVariants.{IsD, ImD, SmD}
pub use Rattle.snoop_bus.specs.declared.access.AccessKind.{AccessKind}
pub use Rattle.trace_report.specs.Known.{IsLine, IsAt, AreStoresKnown}
pub use Rattle.trace_report.specs.Lines.{access_name, request_name, state_name, after_plus, joined_by_plus, line_name, entries_text}
pub use Rattle.trace_report.specs.Lines.{moved_text, forwarded_text, access_text, request_text, flush_text, write_back_text, changes_text}
pub use Rattle.trace_report.specs.Lines.{outcome_name, store_text, later_stores, stores_text, buffer_text, step_lines, stall_name}
pub use Rattle.trace_report.specs.Lines.{printed_move, printed_request, printed_core, printed_change, names_in_line, transient_name}
pub use Rattle.trace_report.specs.Lines.{trace_text, trace_step_line}
pub use Rattle.trace_report.specs.declared.step.LineRequest.{LineRequest}
pub use Rattle.trace_report.specs.declared.step.LineState.{LineState}
pub use Rattle.trace_report.specs.declared.step.StateChange.{StateChange}
pub use Rattle.std.specs.Option.{option_map}
pub use Rattle.tso_terms.specs.declared.choice.Stall.TheVariants.{Done, Full, Empty}
pub use Rattle.printed_laws.specs.Traces.{bare_store, told_by_line, TraceStepFits, TracesTellTheirSteps, told_by_object, SourceFits}
pub use Rattle.printed_laws.specs.Traces.{ObjectsTellTheirSteps, IsReadable, TraceValuesTellTheirSteps, PrintedTracesAreTold}
pub use Rattle.printed_laws.specs.Traces.{PrintedTracesNameTheSame}
pub use Rattle.trace_report.specs.JsonValues.{text_or_null, array_of_texts}
pub use Rattle.trace_report.specs.StepJson.{outcome_word, stall_in, step_json}
pub use Rattle.tso_terms.specs.Actions.{action_of}
pub use Rattle.tso_terms.specs.ProgramOrder.{is_write, writes_to}
pub use Rattle.tso_terms.specs.MemoryAccess.{MemoryAccess, NoAccess, Writes, Locks, access_of, next_of}
pub use Rattle.tso_terms.specs.SplitMachine.{Holder, Free, HeldBy, HeldBetween, Attempt, BusEffect, same_choice, needs_bus, acts, asks}
pub use Rattle.tso_terms.specs.SplitMachine.{begins, completes, as_read, writes_last, split_effect}
pub use Rattle.tso_terms.specs.declared.action.Action.TheVariants.{Store, Load, Move, Fence, Lock}
pub use Rattle.trace_report.proofs.Places.{ActionKnown, AccessKnown, access-known}
pub use Rattle.protocol_tables.specs.Tables.{Table, table_of}
pub use Rattle.snoop_bus.specs.Asks.{Awaited}
pub use Rattle.multiprocessor.specs.Caches.{is_awaited, at_access}
pub use Rattle.machine_core.specs.Running.{Running, new_machine, machine_after, attempt_on, machine_effect, machine_use}
pub use Rattle.trace_report.specs.Steps.{moved_by, moved_at, moved_from, buffer_if_changed, placed, line_states, placed_states_from}
pub use Rattle.trace_report.specs.Steps.{number_of_lines, states_of, number_of_state, change_of, changes_in, steps_from, trace_under}
pub use Rattle.trace_report.specs.Steps.{line_state}
unfoldable pub use Rattle.trace_report.specs.Steps.{trace_step_of}
pub use Rattle.trace_report.specs.Told.{IsTraced}
pub use Rattle.trace_report.proofs.Traced.{traced-first}
pub use Rattle.trace_report.proofs.Whole.{step-known, traced-next}
pub use Rattle.protocol_tables.specs.declared.requests.Transient.{Transient}
pub use Rattle.machine_core.specs.Looking.{bus_holder, bus_holder_as, bus_holder_of}
pub use Rattle.machine_core.specs.declared.looking.BusHolder.{BusHolder}
pub use Rattle.trace_report.specs.MachineJson.{words_per_line, copy_json, sets_json, core_json, cores_json, words_in_line, words_on_bus}
pub use Rattle.trace_report.specs.MachineJson.{bus_json, machine_json, cached_lines_in, core_with}
pub use Rattle.trace_report.specs.OwnWords.{own_word, own_words_from, own_words, is_newer_in}
pub use Rattle.trace_report.specs.ProgramsJson.{instruction_text, program_value, programs_value}
pub use Rattle.trace_report.specs.PropositionJson.{proposition_text, proposition_value}
pub use Rattle.trace_report.specs.TraceJson.{sourced_by, step_to, steps_json, trace_json, Sourced}
pub use Rattle.trace_report.specs.Shown.{ShownStep}
