-- The words of the crates below that the definitions of this crate use, in one place: each file takes its own from here.
pub use Rattle.tso_terms.specs.Axioms.{IsTsoExecution}
pub use Rattle.tso_terms.specs.Condition.{Claim, Condition, truth_of}
pub use Rattle.tso_terms.specs.FinalState.{final_registers, final_words}
pub use Rattle.tso_terms.specs.Litmus.{IsTest, Litmus}
pub use Rattle.tso_terms.specs.Runs.{run, Run}
pub use Rattle.tso_terms.specs.SequentialConsistency.{KeepsAllOrder}
pub use Rattle.basic_laws.specs.Types.{Atomic, Split, Choice, Entry}
pub use Rattle.tso_laws.specs.Along.{choices_along, LeadTo}
pub use Rattle.tso_laws.specs.Outcomes.{IsEnd, LeadToEnd}
pub use Rattle.refutation_laws.specs.declared.model.Model.{Model}
pub use Rattle.found_reasons.specs.Reasons.{most_cases}
pub use Rattle.litmus_reader.specs.Spelling.{SpellsTest}
pub use Rattle.litmus_tokens.specs.declared.instructions.Instructions.{Instructions}
pub use Rattle.litmus_reader.specs.declared.fault.TextFault.{TextFault}
pub use Rattle.order_breaches.specs.FirstBreach.{IsFirstBreach}
pub use Rattle.order_breaches.specs.declared.breach.Breach.{Breach}
pub use Rattle.order_breaches.specs.declared.breach.Breach.TheVariants.{Extra, Missing, NoMemory, NotAdjacent, ProgramOrder, ReadValue, Twice, WrongValue}
pub use Rattle.scheduler.specs.Grammar.{SpellsChoices}
pub use Rattle.scheduler.specs.Plan.{most_seeds, Plan}
pub use Rattle.scheduler.specs.Printed.{printed_choices}
pub use Rattle.scheduler.specs.Refusals.{IsDecidedAsChoices, IsRefusedAsChoices}
pub use Rattle.scheduler.specs.WordOfChoice.{IsWordOfChoice}
pub use Rattle.scheduler.specs.declared.fault.ChoiceFault.{ChoiceFault}
pub use Rattle.protocol_tables.specs.Names.{protocol_name}
pub use Rattle.protocol_tables.specs.PrintedTable.{printed_table}
pub use Rattle.protocol_tables.specs.Tables.{table_of}
pub use Rattle.protocol_tables.specs.declared.kind.ProtocolKind.{ProtocolKind}
pub use Rattle.explorer.specs.FinalStates.{HasMoreStates}
pub use Rattle.order_builder.specs.PrintedOrder.{HasLocation, IsLocationFor, letters_of, printed_entry}
pub use Rattle.order_builder.specs.Spelling.{HasFault, SpellsOrder}
pub use Rattle.order_builder.specs.declared.fault.OrderFault.{OrderFault}
pub use Rattle.multiprocessor.specs.Configuration.{Configuration}
pub use Rattle.multiprocessor.specs.declared.counts.Counts.{Counts}
pub use Rattle.tso_report.specs.Json.{cache_value, json_report, machine_value}
pub use Rattle.tso_report.specs.Report.{body, cache_lines, head, machine_line, report}
pub use Rattle.tso_report.specs.Shown.{IsRunOf, ShownRun}
pub use Rattle.tso_report.specs.Tally.{Ascend, counted_state_line, ended_in, looked_at, RunCounts, runs_in, values_in}
pub use Rattle.tso_report.specs.declared.named.Named.{Named}
pub use Rattle.trace_report.specs.Lines.{end_line, trace_step_line, trace_text}
pub use Rattle.trace_report.specs.Steps.{trace_step_of, trace_under}
pub use Rattle.trace_report.specs.TracedRun.{json_ended, json_last_step, json_unended, most_steps}
pub use Rattle.tso_report.specs.ShownNames.{names_shown, values_at}
pub use Rattle.search_report.specs.Laws.{OutcomesAreAlike}
pub use Rattle.search_report.specs.Outcomes.{is_met_in, Outcome, outcome_of, shown_values}
pub use Rattle.search_report.specs.MetOutcomes.{unfinished_search_in}
pub use Rattle.search_report.specs.PrintedOutcomes.{outcomes_in}
pub use Rattle.search_report.specs.Verdict.{is_as_claimed}
pub use Rattle.search_report.specs.PrintedReasons.{ShowsExecution, unfinished_cases_in}
pub use Rattle.search_report.specs.RefutationReports.{refutation_in}
pub use Rattle.command_line.specs.Explanation.{Explanation}
pub use Rattle.command_line.specs.Search.{Search}
pub use Rattle.command_line.specs.declared.settings.Settings.{Settings}
pub use Rattle.counted_io.specs.Limits.{longest_input}
pub use Rattle.machine_runs.specs.Runs.{AnswersFit, counts_under, run_under}
pub use Rattle.machine_runs.specs.Simulation.{IsEndingOf, shown_of, verdict}
pub use Rattle.machine_runs.specs.declared.driving.Ending.{Ending}
pub use Rattle.machine_runs.specs.declared.driving.Ending.TheVariants.{Ended, Unfinished}
pub use Rattle.sweep_runs.specs.Counting.{choices_of, sweep_counts, SweepAnswersFit}
