-- The names that the proofs of this crate bring in from definitions and from crates below; each file takes its own from here.
pub use Rattle.std.proofs.Common.{◌≡◌, ◌<◌, ◌≤◌, ◌⊎◌, inl, inr, ◌==◌, ◌&&◌, ◌+◌, ℕ, Bool, true, false, not, cond, List, Option, Some, None}
pub use Rattle.std.proofs.Common.{refl, sym, ap, subst, ◌∙◌, arith, if◌then◌else◌, [], ◌∷◌, suc, length, map, zero, slice_index_or, is_some}
pub use Rattle.std.proofs.Common.{Ordering, Less, Equal, Greater, All, Contains, add-one, slice_set, Ok}
pub use Rattle.std.specs.Prelude.{sum, bytes_eq}
pub use Rattle.std.specs.Map.{values_of, lookup, keys_of}
pub use Rattle.tso_terms.specs.FlatMachine.{registers_in, State, chosen, core_of, effect_of, applied, start}
pub use Rattle.tso_terms.specs.Litmus.{Litmus}
pub use Rattle.tso_terms.specs.Runs.{Run, has_ended, run, run_from}
pub use Rattle.protocol_tables.specs.declared.kind.ProtocolKind.{ProtocolKind}
pub use Rattle.multiprocessor.specs.Configuration.{Configuration}
pub use Rattle.tso_report.specs.Tally.{RunCounts, with_state_counted, with_verdict, values_in, runs_in, with_unfinished, count_of_runs, with_values, Ascend}
pub use Rattle.machine_runs.specs.Runs.{AnswersFit, run_by, run_under, AnswersFitBy}
pub use Rattle.machine_runs.specs.Simulation.{verdict}
pub use Rattle.sweep_runs.specs.Counting.{choices_of, with_one_run, AnswersFitFrom, seeded_run, counts_from}
pub use Rattle.std.specs.List.{AllByRecursion}
pub use Rattle.tso_terms.specs.EitherBus.{BusState, effect_on, after_on, unheld, HitsFit}
pub use Rattle.basic_laws.specs.Types.{Bus, Atomic, Split, Choice}
pub use Rattle.protocol_tables.specs.Tables.{Table, table_of}
pub use Rattle.machine_core.specs.Running.{Running, new_machine, restarted, table_in, configuration_of}
pub use Rattle.machine_runs.specs.inner.Runs.{machine_run, AnswersFitOn}
pub use Rattle.machine_runs.proofs.SimulationLemmas.{RunLaws, IsDriven, from-new, ended-as-driven, unfinished-is}
pub use Rattle.flat_machine.specs.State.{state_of_snapshot, core_of_processor}
pub use Rattle.scheduler.specs.Seeds.{choice_of_word, drawn_words, seeded_choices}
pub use Rattle.flat_machine.proofs.Choosing.{on-ok}
