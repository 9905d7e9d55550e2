-- The names that the proofs of this crate bring in from definitions and from crates below; each file takes its own from here.
pub use Rattle.std.proofs.Common.{◌≡◌, ◌<◌, ◌-◌, ◌+◌, ◌*◌, ℕ, zero, suc, Bool, true, false, List, [], ◌∷◌, length, All, slice_get}
pub use Rattle.std.proofs.Common.{slice_index_or, Option, Some, None, is_some, arith, ap, sym, ◌∙◌, refl}
pub use Rattle.std.proofs.Common.{subst, ◌++◌, append-nil, ◌⊎◌, inl, inr, append_assoc, ◌≤◌, cond}
pub use Rattle.tso_terms.specs.Litmus.{Litmus, IsTest}
pub use Rattle.tso_laws.specs.WellFormed.{IsWellFormed}
pub use Rattle.tso_laws.proofs.WellFormed.{well-formed}
pub use Rattle.tso_terms.specs.SequentialConsistency.{KeepsAllOrder}
pub use Rattle.tso_terms.specs.Condition.{Condition, truth_of, NamesExist, claim_of, condition_of}
pub use Rattle.tso_terms.specs.FlatMachine.{State, registers_in, start}
pub use Rattle.tso_terms.specs.Runs.{Run, has_ended, run, stall_count, CoresExist}
pub use Rattle.tso_terms.specs.SplitMachine.{Attempt, Free, Holder}
pub use Rattle.tso_terms.specs.EitherBus.{BusState, run_on, choices_in, BusRun, unheld, after_on, HitsFit, effect_on, then_on, resting_on, HitFits}
pub use Rattle.tso_terms.specs.Together.{put_together, together}
pub use Rattle.basic_laws.specs.Types.{Bus, Atomic, Split, Choice, Entry}
pub use Rattle.tso_laws.specs.EndedRuns.{End, IsExecution}
pub use Rattle.tso_laws.specs.BusRuns.{EndOn, waiting, IsFlatRun, left_by}
pub use Rattle.tso_laws.specs.inner.BusRuns.{StopsAtTheEndOn, ChangesNothingOn}
pub use Rattle.protocol_tables.specs.Tables.{Table, table_of}
pub use Rattle.multiprocessor.specs.declared.counts.Counts.{Counts}
pub use Rattle.multiprocessor.specs.Configuration.{Configuration}
pub use Rattle.multiprocessor.specs.Statistics.{Statistics, counts_of, statistics_from, no_counts}
pub use Rattle.multiprocessor.specs.Statistics.{statistics_after}
pub use Rattle.multiprocessor.specs.Statistics.{no_statistics}
pub use Rattle.machine_core.specs.Running.{Running, new_machine, attempt_on, machine_effect, machine_after, AnswerFits}
pub use Rattle.tso_report.specs.Shown.{ShownRun, shown_run}
pub use Rattle.machine_runs.specs.Runs.{run_by, AnswersFitBy, counts_by, run_under}
pub use Rattle.machine_runs.specs.declared.driving.Ending.{Ending}
pub use Rattle.machine_runs.specs.declared.driving.Ending.TheVariants.{Ended, Unfinished}
pub use Rattle.machine_runs.specs.Simulation.{shown_of, verdict, IsEndingOf, IsCounted, HasAllOrder, HasEnded, drains, FitsEnding, HasCounts}
pub use Rattle.machine_runs.specs.inner.Simulation.{Drives, answers_of, bus_run_of, HaveFittingAnswers, IsEndingLeftBy}
pub use Rattle.tso_terms.specs.Axioms.{IsTsoExecution, IsWhole}
pub use Rattle.multiprocessor.specs.Caches.{Caches, attempt_of, use_on}
