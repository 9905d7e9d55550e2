-- The names that the proofs of this crate bring in from definitions and from crates below; each file takes its own from here.
pub use Rattle.std.proofs.Common.{◌≡◌, ◌<◌, ℕ, ◌+◌, suc, List, [], ◌∷◌, ◌++◌, length, map, Some, None, slice_get, slice_set, slice_index}
pub use Rattle.std.proofs.Common.{arith, ap, sym, ◌∙◌, refl, subst, true, slice_index_or, inl, inr, append_assoc, ◌≤◌, Bool, false, ◌⊎◌}
pub use Rattle.std.proofs.Common.{if◌then◌else◌, nat_lt, filter, get_or-set_same, get_or-set_other, ◌↔◌, Option, ◌≢◌, zero, ◌==◌, ◌&&◌}
pub use Rattle.std.proofs.Common.{rules}
pub use Rattle.tso_terms.specs.Litmus.{Litmus, IsTest, KnownLocation}
pub use Rattle.tso_terms.specs.Actions.{action_of, location_of}
pub use Rattle.tso_terms.specs.FlatMachine.{CoreState, State, Effect, advanced_with, effect_by, load_value, memory_after, applied}
pub use Rattle.tso_terms.specs.FlatMachine.{program_of, registers_in, start, step, drain, stored, idle, effect_of, after_choice, started}
pub use Rattle.tso_terms.specs.FlatMachine.{is_none_pending, stalled, step_of, drain_of, core_of, chosen, advanced}
pub use Rattle.tso_terms.specs.declared.action.Action.TheVariants.{Lock, Store, Load, Move, Fence}
pub use Rattle.basic_laws.specs.Types.{Entry, Committed, Buffered, Moved, Instr, Choice, Loc, Operand, Action, W, LR, LW, R, Reg, Update, Stall, Kind}
pub use Rattle.abstract_machine.specs.Machine.{NotLocked, HasBegun, HasRead, HardwareThread, Machine, with_thread, with_write, with_buffer}
pub use Rattle.abstract_machine.specs.Machine.{with_progress, first, first_threads, HasWritten, IsNotBlocked, with_lock}
pub use Rattle.abstract_machine.specs.Steps.{ThreadStep, read, write, flush, move, mfence, lock, locked_read, locked_write, unlock, Runs}
pub use Rattle.abstract_machine.specs.Steps.{rests, goes_on, CanRead, from_memory, from_buffer, StandsAt}
pub use Rattle.basic_laws.proofs.Lists.{each-at, append-nil, Each, each-append}
pub use Rattle.tso_terms.specs.Axioms.{IsTsoExecution, last_value, IsAdjacent}
pub use Rattle.tso_terms.specs.FinalState.{final_words, final_registers}
pub use Rattle.tso_terms.specs.Runs.{is_done, all_done, has_ended, run, Run, resting, then_run, run_from, CoresExist}
pub use Rattle.tso_terms.specs.Together.{put_together, put_before}
pub use Rattle.tso_laws.specs.WellFormed.{IsWellFormed}
pub use Rattle.tso_laws.proofs.WellFormed.{well-formed}
pub use Rattle.tso_laws.specs.Choices.{IsPossible}
pub use Rattle.tso_laws.specs.EndedRuns.{End, IsExecution}
pub use Rattle.tso_laws.specs.inner.Stopping.{StopsAtTheEnd}
pub use Rattle.abstract_machine.specs.Ended.{IsFinished, AllAreFinished, registers_of_threads, EndsWith, IsReachedFreely}
pub use Rattle.basic_laws.proofs.Basics.{decide, test-true, test-false, max-within, and-left, and-right, lt-or}
pub use Rattle.std.specs.Prelude.{IfSome}
pub use Rattle.std.proofs.lemmas.Bool.Decides.{nat_tests}
pub use Rattle.std.proofs.lemmas.List.{get_or_past, map-set, set-set, set_comm, length-set, length-map}
pub use Rattle.tso_terms.specs.ProgramOrder.{is_write, writes_to, same_kind, IsStorePart}
pub use Rattle.tso_laws.specs.Counting.{store_count, stores_in, most_stores}
pub use Rattle.tso_laws.specs.Depth.{needed}
pub use Rattle.tso_laws.specs.Along.{choices_along, LeadTo}
pub use Rattle.tso_laws.specs.Reached.{IsReached}
pub use Rattle.std.proofs.lemmas.Option.{slice_get-get_or}
pub use Rattle.tso_terms.specs.Thread.{entry, fence, value_in, value_of, with_value, updated}
pub use Rattle.abstract_machine.specs.OneStep.{IsBlocked, KeepsBuffer, ReadsAndFlushesNothing, Unlocks}
pub use Rattle.tso_terms.specs.ProgramEntries.{is_at}
pub use Rattle.tso_terms.specs.Examples.{sb, sb_order, n6, n6_order, added, separated_order}
pub use Rattle.tso_laws.specs.WorkedRuns.{short_order, turned_order, wrong_order}
pub use Rattle.tso_laws.proofs.Work.{is_none-is}
pub use Rattle.basic_laws.proofs.Cores.{length-starts}
