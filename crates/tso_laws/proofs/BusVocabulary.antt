-- The names that the proofs of this crate bring in from definitions and from crates below; each file takes its own from here.
pub use Rattle.std.proofs.Common.{◌≡◌, ◌≢◌, ◌<◌, ◌≤◌, ℕ, ◌+◌, ◌*◌, zero, suc, List, [], ◌∷◌, Option, Some, None, length, slice_get}
pub use Rattle.std.proofs.Common.{slice_set, slice_index_or, drop, arith, ap, refl, ◌⊎◌, inl, inr, length-append, ◌++◌, Bool, true, false}
pub use Rattle.std.proofs.Common.{◌∙◌, if◌then◌else◌, sym, subst, slice_index, ◌==◌, get_or-set_same, get_or-set_other, nat_lt}
pub use Rattle.std.proofs.Common.{append_assoc, take, ◌&&◌, rules}
pub use Rattle.std.proofs.lemmas.Bool.{cases_Bool}
pub use Rattle.basic_laws.proofs.Cores.{starts-idle, length-starts, all-done, done-at, no-program, no-core, done-anywhere}
pub use Rattle.std.proofs.lemmas.Option.{slice_get_within, slice_get_past}
pub use Rattle.tso_terms.specs.Litmus.{Litmus, IsTest}
pub use Rattle.tso_laws.specs.WellFormed.{IsWellFormed}
pub use Rattle.tso_terms.specs.FlatMachine.{CoreState, State, Effect, idle, stalled, step_of, effect_of, chosen, core_of, program_of}
pub use Rattle.tso_terms.specs.FlatMachine.{applied, started, after_choice, start, drain_of, is_none_pending, memory_after, stored}
pub use Rattle.tso_terms.specs.FlatMachine.{effect_by, step, drain}
pub use Rattle.tso_terms.specs.Runs.{stall_count, has_ended, resting, then_run, run_from, run, is_done, all_done, Run, CoresExist}
pub use Rattle.tso_terms.specs.MemoryAccess.{MemoryAccess, NoAccess, Reads, Writes, Locks, step_access, drain_access, next_of, access_of}
pub use Rattle.tso_terms.specs.MemoryAccess.{load_access, access_by, store_access, locked_access}
pub use Rattle.basic_laws.specs.Types.{Instr, Entry, Choice, Step, Drain, Stall, Atomic, Split, Bus, Loc, Outcome, Committed, Asked}
pub use Rattle.basic_laws.specs.Types.{Stalled, Buffered, Action, LW, LR, W, R, Reg}
pub use Rattle.tso_laws.specs.Counting.{instructions}
pub use Rattle.basic_laws.proofs.WithPending.{drain_with, fenced_with, locked_with}
pub use Rattle.basic_laws.proofs.Basics.{lt-or, test-true, decide, and-left, and-right}
pub use Rattle.basic_laws.proofs.Lists.{drop-at, Each, each-append, each-map, each-at}
pub use Rattle.tso_terms.specs.SplitMachine.{Free, Attempt, Holder, HeldBy, HeldBetween, BusEffect, same_choice, needs_bus, acts, asks}
pub use Rattle.tso_terms.specs.SplitMachine.{begins, load_part, reads_first, completes, as_read, after_first, writes_last, split_effect}
pub use Rattle.tso_terms.specs.EitherBus.{BusRun, unheld, effect_on, resting_on, then_on, run_on_from, run_on, choices_in, HitsFit, BusState, after_on, HitFits}
pub use Rattle.tso_terms.specs.Together.{put_together, put_before, together}
pub use Rattle.tso_laws.specs.Choices.{commits_of, state_after}
pub use Rattle.tso_laws.specs.inner.Stopping.{StopsAtTheEnd}
pub use Rattle.std.proofs.Math.ListN.{length-set}
pub use Rattle.std.proofs.lemmas.List.{set-get_or, get_or_past, append-nil}
pub use Rattle.tso_laws.specs.BusChoices.{state_on, commits_on, IsPossibleOn}
pub use Rattle.std.specs.Prelude.{filter}
pub use Rattle.tso_terms.specs.ProgramOrder.{is_write, writes_to, same_kind, IsStorePart}
pub use Rattle.tso_terms.specs.Actions.{action_of}
pub use Rattle.tso_terms.specs.declared.action.Action.TheVariants.{Store, Load, Move, Fence, Lock}
pub use Rattle.tso_laws.specs.Holders.{HasRead, HolderFits}
pub use Rattle.std.proofs.lemmas.Bool.Decides.{nat_tests}
pub use Rattle.tso_terms.specs.Thread.{entry, value_in, value_of, updated}
pub use Rattle.tso_laws.specs.BusRuns.{waiting, ask_count, wait_count, load_part_count, bus_count, made_for_bus, wait_for_bus, EndOn, left_by, IsFlatRun}
pub use Rattle.tso_laws.specs.Rounds.{Among, IsRound, CanBeCutIntoRounds}
pub use Rattle.tso_terms.specs.ProgramEntries.{is_at}
pub use Rattle.tso_laws.specs.Between.{IsAnswered, ArePaired}
pub use Rattle.tso_laws.specs.inner.BusRuns.{ChangesNothingOn, StopsAtTheEndOn}
pub use Rattle.tso_laws.specs.BusSoFar.{SoFarOn}
pub use Rattle.tso_laws.specs.inner.Pending.{PendingIsOwn}
pub use Rattle.tso_terms.specs.SequentialConsistency.{KeepsAllOrder}
pub use Rattle.tso_laws.specs.EndedRuns.{End, IsExecution}
pub use Rattle.tso_laws.specs.WorkedSplitRuns.{added_and_loaded_elsewhere, load_between}
pub use Rattle.tso_laws.specs.inner.WorkedSplitRuns.{one_round}
pub use Rattle.tso_terms.specs.Examples.{loc_x, loc_y}
