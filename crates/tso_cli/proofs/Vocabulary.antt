-- The names that the proofs of this crate bring in from definitions and from crates below; each file takes its own from here.
pub use Rattle.std.proofs.Common.{◌≡◌, ◌<◌, ◌≤◌, ◌⊎◌, inl, inr, ◌+◌, ℕ, zero, suc, Bool, true, false, not, cond, List, Option, Some, None}
pub use Rattle.std.proofs.Common.{IfSome, is_none, All, Contains, refl, sym, ap, subst, ◌∙◌, arith, ◌^◌, length, ◌≢◌, ◌*◌, IsTrue, [], ◌∷◌}
pub use Rattle.std.proofs.Common.{◌++◌, map, get_or, slice_get, slice_index_or, take, length-take, ◌==◌, nat_eq, codes, drop, replicate}
pub use Rattle.std.proofs.Common.{◌-◌, slice_index, length-append, append_assoc, append-nil, is_some, Ordering, Less, Equal, Greater}
pub use Rattle.std.proofs.Common.{string_bytes, Ok, Result, Err, IfOk, OnOk, length-drop, rules}
pub use Rattle.std.proofs.lemmas.Slice.Eq.{bytes_eq-Decides, starts_is}
pub use Rattle.std.specs.Option.{option_map, ForSome, unwrap_or}
pub use Rattle.std.specs.Map.{keys_of, lookup}
pub use Rattle.tso_terms.specs.FlatMachine.{registers_in, program_of, start, chosen}
pub use Rattle.tso_terms.specs.Litmus.{Litmus, IsTest, IsProgram, IsCondition}
pub use Rattle.tso_laws.specs.WellFormed.{IsWellFormed}
pub use Rattle.tso_laws.proofs.WellFormed.{well-formed}
pub use Rattle.tso_terms.specs.Axioms.{IsTsoExecution, IsWhole}
pub use Rattle.tso_terms.specs.SequentialConsistency.{KeepsAllOrder}
pub use Rattle.tso_terms.specs.Condition.{Condition, truth_of, Claim, NamesExist, claim_of, condition_of}
pub use Rattle.tso_terms.specs.FinalState.{final_words, final_registers, registers_from, words_from}
pub use Rattle.tso_terms.specs.Runs.{Run, run, CoresExist, has_ended, stall_count}
pub use Rattle.basic_laws.specs.Types.{Atomic, Split, Choice, Entry, Instr, StoreImm, Bus}
pub use Rattle.tso_laws.specs.EndedRuns.{IsExecution, End}
pub use Rattle.protocol_tables.specs.declared.kind.ProtocolKind.{ProtocolKind}
pub use Rattle.multiprocessor.specs.Configuration.{Configuration, IsConfigurationWithinLimits}
pub use Rattle.tso_report.specs.Tally.{RunCounts, with_state_counted, with_verdict, values_in, count_of_runs, runs_in, counted_state_line}
pub use Rattle.tso_report.specs.Tally.{tally_text, counted_state_lines, sweep_line, ended_in, observation, run_counts, looked_at}
pub use Rattle.tso_report.specs.Tally.{shown_value}
pub use Rattle.scheduler.specs.Plan.{Plan}
pub use Rattle.machine_runs.specs.Runs.{run_under, AnswersFit, counts_under, run_by, AnswersFitBy}
pub use Rattle.machine_runs.specs.Simulation.{verdict, IsEndingOf, drains, shown_of, HasCounts}
pub use Rattle.tso_cli.specs.Sweep.{IsSweepAnswer, sweep_status, sweep_lines}
pub use Rattle.sweep_runs.specs.Counting.{choices_of, seeded_run, with_one_run, counts_from, sweep_counts}
pub use Rattle.tso_cli.specs.SweepHeadline.{final_values, has_values, has_truth, seeds_from, HasPart, PrintsSweep, HeadlineOfSweeps, seeded_order, seeds_with}
pub use Rattle.tso_cli.specs.declared.answer.Status.{Status}
pub use Rattle.sweep_runs.proofs.StateLemmas.{States, Ascend, EachGiven, count-with, ascend-none, each-counted, counted-there, all-map, same-values, sum-with}
pub use Rattle.sweep_runs.proofs.RunsCounted.{values-left, one, states-judged, unfinished-judged, held-judged, failed-judged, ascend-run, given-run, runs-with}
pub use Rattle.scheduler.specs.Refusals.{IsDecidedAsChoices, IsRefusedAsChoices}
pub use Rattle.scheduler.specs.declared.fault.ChoiceFault.TheVariants.{TooMany}
pub use Rattle.tso_cli.specs.Dividing.{parts_of, joined_parts, after_feed, after_end, after_divider, parts_at, with_byte, parts_from}
pub use Rattle.tso_cli.specs.Dividing.{HasNoDivider, EndsInFeed, Parts}
pub use Rattle.tso_cli.specs.Lines.{test_refusal, choices_refusal, unfinished_run_line, input_refusal, depth_line}
pub use Rattle.tso_cli.specs.CheckLines.{order_refusal, invalid_line, valid_line}
pub use Rattle.tso_cli.specs.Answers.{IsAnswerTo, IsInputAnswer, IsAnswer, too_large, answered, IsPrinted, refused, most_read}
pub use Rattle.tso_cli.specs.CommandAnswers.{run_text, run_status, IsRunAnswer, IsJudgement, IsCheckAnswer, ran, valid, status_under}
pub use Rattle.tso_cli.specs.Trace.{traced_in, IsTooLong, IsTraceAnswer, too_long, traced, ending_text, FitsForm}
pub use Rattle.tso_cli.specs.Witness.{IsWitness, IsWitnessAnswer, reached, too_small, witness_line, invalid, judged}
pub use Rattle.command_line.specs.Instructions.{instructions_of}
pub use Rattle.command_line.specs.declared.settings.Settings.{Settings}
pub use Rattle.tso_cli.specs.OneText.{GivesOneAnswer, ShowTheSameStates, ShowOneExecution, AreOneRun, AreOneTrace, AreOneWitness}
pub use Rattle.tso_cli.specs.inner.ReadOneWay.{AreReadOneWay}
pub use Rattle.std.specs.List.{list_all, starts_with, AllByRecursion}
pub use Rattle.std.proofs.lemmas.List.Elements.{All-head, All-tail, All-weaker, All-contains, All-map, All-cons, All-nil}
pub use Rattle.tso_terms.specs.Limits.{most_depth}
pub use Rattle.tso_laws.specs.Along.{choices_along, LeadTo}
pub use Rattle.tso_laws.specs.Depth.{needed}
pub use Rattle.scheduler.specs.Grammar.{SpellsChoices}
pub use Rattle.scheduler.specs.Printed.{printed_choices, printed_choice, printed_after}
pub use Rattle.tso_cli.specs.Judgement.{WitnessesOrder, WitnessesEachOrder, unreached, broken, JudgesOrder, JudgesEachOrder}
pub use Rattle.command_line.specs.Limits.{IsDepth, IsWithinLimits}
pub use Rattle.machine_runs.specs.declared.driving.Ending.{Ending}
pub use Rattle.machine_runs.specs.declared.driving.Ending.TheVariants.{Ended, Unfinished}
pub use Rattle.tso_cli.specs.declared.answer.Status.TheVariants.{Good, Refused, Unended, Invalid}
pub use Rattle.std.proofs.lemmas.List.{length-map}
pub use Rattle.tso_report.specs.declared.named.Named.{Named}
pub use Rattle.tso_report.specs.ShownNames.{names_shown, values_at}
pub use Rattle.search_report.specs.Outcomes.{Outcome, shown_values, held_in, failed_in, is_met_in, true_in, outcomes_line, state_line}
pub use Rattle.search_report.specs.Outcomes.{by_line, outcome_lines, observation_line, true_line, condition_lines}
pub use Rattle.command_line.specs.Search.{Search}
pub use Rattle.tso_cli.specs.Outcomes.{AreAllOutcomes, IsOutcomesAnswer, found, is_claimed_of, too_many}
pub use Rattle.tso_cli.specs.OutcomesHeadline.{HeadlineOfOutcomes, all}
pub use Rattle.refutation_laws.specs.Models.{IsExecutionOf, depth_of}
pub use Rattle.command_line.specs.Explanation.{Explanation}
pub use Rattle.tso_cli.specs.Why.{IsWhyAnswer, allowed, never}
pub use Rattle.tso_cli.specs.WhyHeadline.{PrintsRefutation, PrintsExecutionOf, HeadlineOfReasons}
pub use Rattle.litmus_reader.specs.Spelling.{SpellsTest}
pub use Rattle.litmus_tokens.specs.declared.instructions.Instructions.{Instructions}
pub use Rattle.search_report.specs.Verdict.{verdict_line, outcomes_verdict_value}
pub use Rattle.search_report.specs.MetOutcomes.{PrintsMet}
pub use Rattle.search_report.specs.PrintedOutcomes.{outcomes_in, PrintsOutcomes}
pub use Rattle.search_report.specs.Laws.{OutcomesAreAlike, OutcomesOfTheSameValuesAreAlike}
pub use Rattle.tso_terms.specs.Standing.{StandsIn}
pub use Rattle.tso_laws.specs.Entries.{FitsTest}
pub use Rattle.order_builder.specs.Spelling.{IsOrderFor, SpellsOrder, HasAccess, IsEntryFor, HasFault}
pub use Rattle.protocol_tables.specs.Tables.{Table, table_of}
pub use Rattle.tso_report.specs.Report.{head, report, line, body, test_line, machine_line, register_lines, memory_line, condition_line}
pub use Rattle.tso_report.specs.Report.{choices_line, cache_lines}
pub use Rattle.tso_report.specs.Shown.{ShownRun}
pub use Rattle.tso_cli.specs.RunHeadline.{PrintsExecution, PrintsEachRun, HeadlineOfRuns}
pub use Rattle.tso_cli.specs.TraceHeadline.{PrintsTraceIn, PrintsEachTrace, HeadlineOfTraces, PrintsTrace, PrintsTracedObject}
pub use Rattle.tso_cli.specs.Headline.{HeadlineOf, InputHeadline, Headline, PartsHeadline}
pub use Rattle.tso_cli.specs.RunTexts.{report_in, unfinished_in}
pub use Rattle.std.proofs.lemmas.Option.{slice_get-get_or, get_or_from_slice_get, slice_get_within}
pub use Rattle.order_builder.specs.PrintedOrder.{HasWord, printed_order, HasLocation}
pub use Rattle.order_builder.specs.declared.fault.OrderFault.{OrderFault}
pub use Rattle.order_breaches.specs.FirstBreach.{IsFirstBreach}
pub use Rattle.order_breaches.specs.declared.breach.Breach.{Breach}
pub use Rattle.counted_io.specs.Limits.{longest_input}
pub use Rattle.tso_terms.specs.Registers.{AreRegisters, IsWord, index_of}
pub use Rattle.tso_terms.specs.ProgramEntries.{made_by, made_from, read_values}
pub use Rattle.machine_runs.proofs.BusLemmas.{attempts_in, length-in, run-is, atomic-run}
pub use Rattle.machine_runs.proofs.SimulationLemmas.{RunLaws, choices-counted}
pub use Rattle.machine_runs.proofs.CountLemmas.{counts-each, counts-few}
pub use Rattle.std.specs.Fmt.{decimal}
pub use Rattle.trace_report.specs.Lines.{trace_text, trace_step_line, step_lines, end_line}
pub use Rattle.trace_report.specs.Steps.{trace_under, trace_step_of, steps_from, trace_of}
pub use Rattle.trace_report.specs.TracedRun.{json_ended, json_unended, json_last_step}
unfoldable pub use Rattle.std.specs.List.Sorted.{IsStrictlySortedBy}
pub use Rattle.std.specs.Ordering.{is_eq, nat_cmp, ordering_reverse, match_ordering}
pub use Rattle.std.specs.Cmp.Lexicographic.{slice_cmp}
pub use Rattle.std.specs.BTreeMap.{is_at, insert_entry}
pub use Rattle.litmus_reader.specs.declared.fault.TextFault.{TextFault}
pub use Rattle.tso_cli.specs.Fitting.{EndedRunsFit, ChoicesAreCounted, IsStateAt, IsStateOf, SweptCountsFit}
pub use Rattle.tso_cli.specs.Step.{IsStepAnswer}
pub use Rattle.tso_cli.specs.inner.Step.{IsLastStep, told}
pub use Rattle.litmus_reader.specs.Reading.{refusal}
pub use Rattle.multiprocessor.specs.declared.counts.Counts.{Counts}
pub use Rattle.machine_core.specs.Running.{Running, new_machine, machine_after}
pub use Rattle.trace_report.specs.Shown.{ShownStep, shown_step}
pub use Rattle.trace_report.specs.inner.ToldSteps.{told_step}
pub use Rattle.explorer.specs.FinalStates.{AreReached, HaveEveryEnd, HasMoreStates}
pub use Rattle.explorer.specs.declared.final_states.FinalState.{FinalState}
pub use Rattle.tso_cli.specs.Verdicts.{status_of_verdict}
pub use Rattle.search_report.specs.PrintedReasons.{ShowsExecution, unfinished_cases_in}
pub use Rattle.search_report.specs.RefutationReports.{refutation_in}
