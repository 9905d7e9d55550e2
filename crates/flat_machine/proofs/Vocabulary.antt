-- The names that the proofs of this crate bring in from definitions and from crates below; each file takes its own from here.
pub use Rattle.std.proofs.Common.{◌≡◌, ℕ, ◌+◌, ◌<◌, ◌≤◌, zero, suc, List, [], ◌∷◌, ◌++◌, length, take, map, slice_index_or, refl, ap, sym}
pub use Rattle.std.proofs.Common.{◌∙◌, arith, Bool, true, false, if◌then◌else◌, slice_set, Some, None, slice_get, Result, Ok, Err, OnOk}
pub use Rattle.std.proofs.Common.{◌==◌, length-append, subst, drop}
pub use Rattle.std.proofs.lemmas.List.{take_all}
pub use Rattle.tso_terms.specs.FlatMachine.{CoreState, State, started, start, after_choice, effect_of, memory_after, Effect, idle}
pub use Rattle.tso_terms.specs.FlatMachine.{program_of, core_of, step_of, effect_by, drain_of, applied, chosen, step, drain, stalled}
pub use Rattle.tso_terms.specs.Litmus.{Litmus}
pub use Rattle.basic_laws.specs.Types.{Instr, Entry, Choice, Action, Stall, Outcome, Committed, Buffered, Moved, Asked, Stalled}
pub use Rattle.flat_machine.specs.State.{core_of_processor, state_of_snapshot}
pub use Rattle.flat_machine.specs.declared.snapshot.Processor.{Processor}
pub use Rattle.std.proofs.Math.ListN.{length-set}
pub use Rattle.tso_terms.specs.ProgramOrder.{is_write, writes_to}
pub use Rattle.tso_terms.specs.Runs.{Run, has_ended, run_from, then_run, stall_count, CoresExist, all_done}
pub use Rattle.std.proofs.lemmas.Option.{slice_get-get_or}
pub use Rattle.tso_terms.specs.Actions.{action_of}
pub use Rattle.flat_machine.specs.declared.snapshot.Snapshot.{Snapshot}
pub use Rattle.std.proofs.lemmas.Bool.Decides.{nat_tests}
pub use Rattle.std.specs.Prelude.{filter}
pub use Rattle.tso_terms.specs.Axioms.{last_value}
