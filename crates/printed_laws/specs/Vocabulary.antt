-- The words of the crates below that the definitions of this crate use, in one place: each file takes its own from here.
pub use Rattle.serde_json.specs.Written.{compact_text, outline}
pub use Rattle.tso_terms.specs.Condition.{Claim, Condition, truth_of}
pub use Rattle.tso_terms.specs.FlatMachine.{chosen, core_of, registers_in}
pub use Rattle.tso_terms.specs.Litmus.{IsTest, Litmus}
pub use Rattle.tso_terms.specs.Registers.{IsWord}
pub use Rattle.tso_terms.specs.Runs.{CoresExist}
pub use Rattle.basic_laws.specs.Types.{Exists, Forall, NotExists, Quantifier}
pub use Rattle.refutation_laws.specs.Refutations.{asked_claim}
pub use Rattle.refutation_laws.specs.declared.model.Model.{Model}
pub use Rattle.litmus_reader.specs.Spelling.{SpellsTest}
pub use Rattle.scheduler.specs.Limits.{most_choices}
pub use Rattle.protocol_tables.specs.declared.kind.ProtocolKind.{ProtocolKind}
pub use Rattle.order_builder.specs.Spelling.{IsOrderFor}
pub use Rattle.multiprocessor.specs.Configuration.{Configuration, IsConfigurationWithinLimits}
pub use Rattle.tso_report.specs.Report.{line}
pub use Rattle.tso_report.specs.declared.named.Named.{Named}
pub use Rattle.trace_report.specs.Lines.{line_name, names_in_line, trace_text}
pub use Rattle.trace_report.specs.Steps.{line_state, trace_under}
pub use Rattle.tso_report.specs.ShownNames.{names_shown, values_at}
pub use Rattle.search_report.specs.Outcomes.{Outcome, printed_numbers, shown_values}
pub use Rattle.search_report.specs.Verdict.{verdict_word}
pub use Rattle.command_line.specs.Search.{Search}
pub use Rattle.counted_io.specs.Limits.{longest_input}
pub use Rattle.machine_runs.specs.Runs.{AnswersFit, run_under}
pub use Rattle.tso_cli.specs.Dividing.{parts_of}
pub use Rattle.tso_cli.specs.Fitting.{CountsFitTest, IsStateAt, RunFitsTest, shown_under}
pub use Rattle.tso_cli.specs.Headline.{InputHeadline}
