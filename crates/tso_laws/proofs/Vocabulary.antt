-- The names that the proofs of this crate bring in from definitions and from crates below; each file takes its own from here.
pub use Rattle.std.proofs.Common.{◌≡◌, ℕ, ◌+◌, zero, suc, List, [], ◌∷◌, ◌++◌, Some, take, drop, slice_get, slice_index, arith, ap, sym}
pub use Rattle.std.proofs.Common.{◌∙◌, append_assoc, refl, add-one, subst, ◌≢◌, ◌<◌, ◌≤◌, Bool, true, false, length, slice_index_or, map}
pub use Rattle.std.proofs.Common.{inl, inr, ◌==◌, if◌then◌else◌, length-append, IfSome, ◌⊎◌, ◌&&◌, nat_lt, ◌||◌, not, All, Option, None}
pub use Rattle.std.proofs.Common.{◌↔◌, ◌*◌, get_or-set_same, get_or-set_other, cond, ltb, slice_set, max, ◌-◌, rules}
pub use Rattle.std.proofs.lemmas.Bool.{cases_Bool, false_from_ne_true}
pub use Rattle.std.proofs.lemmas.List.{set-get_or}
pub use Rattle.basic_laws.proofs.Cores.{starts-idle, length-starts, all-done, done-at, no-program, no-core, done-anywhere}
pub use Rattle.tso_terms.specs.Actions.{action_of, location_of}
pub use Rattle.tso_terms.specs.Thread.{entries_by, registers_by, values_after, entries_of, registers_after, entry, fence, value_in}
pub use Rattle.tso_terms.specs.Thread.{value_of, updated, with_value, sum_of}
pub use Rattle.tso_terms.specs.ProgramEntries.{values_by, made_by, read_values, made_from, made, is_at, read_value}
pub use Rattle.tso_terms.specs.FinalState.{registers_of, registers_from, final_registers, words_from, word_after}
pub use Rattle.basic_laws.specs.Types.{Instr, Action, Entry, LR, F, R, W, LW, Kind, Choice, Reg, Loc, Stall, Committed, Buffered, Stalled}
pub use Rattle.basic_laws.specs.Types.{StoreImm, SetImm, Operand, Number, Held, Update, Step, Drain}
pub use Rattle.tso_terms.specs.declared.action.Action.TheVariants.{Store, Load, Move, Fence, Lock}
pub use Rattle.std.proofs.lemmas.Option.{slice_get-get_or, slice_get_within, get_or_from_slice_get}
pub use Rattle.std.proofs.lemmas.Bool.Decides.{nat_tests}
pub use Rattle.tso_terms.specs.Litmus.{Litmus, IsTest, KnownLocation, HasWords, ConstantIsWord}
pub use Rattle.tso_laws.specs.WellFormed.{IsWellFormed}
pub use Rattle.tso_terms.specs.ProgramOrder.{is_read, is_before, may_be_passed, is_load, is_store, IsStorePart, writes_to, same_kind, is_write}
pub use Rattle.tso_terms.specs.Axioms.{IsTsoExecution, IsAdjacent, KeepsProgramOrder, IsWhole, last_value, counting}
pub use Rattle.tso_terms.specs.SequentialConsistency.{KeepsAllOrder}
pub use Rattle.basic_laws.proofs.Basics.{test-false, le-cases, lt-by, max-within, not-itself, and-true, and-false, part-small, decide}
pub use Rattle.basic_laws.proofs.Basics.{lt-or, le-by, max-left, max-right, load-kind, before, core-before, max-first, max-second, and-left}
pub use Rattle.basic_laws.proofs.Basics.{and-right, test-true}
pub use Rattle.tso_terms.specs.FlatMachine.{core_of, CoreState, State, idle, program_of, effect_of, chosen, after_choice, start, effect_by}
pub use Rattle.tso_terms.specs.FlatMachine.{step_of, drain_of, stalled, stored, advanced, advanced_with, load_value, fenced, locked, Effect}
pub use Rattle.tso_terms.specs.FlatMachine.{is_none_pending, when_drained, moved, step, drain, loaded, started, memory_after, applied}
pub use Rattle.basic_laws.proofs.Lists.{Each, each-append, each-at, each-right, Member, member-at, drop-end, append-nil, each-map}
pub use Rattle.basic_laws.proofs.Lists.{each-left, drop-at, each-insert, set-cases, each-all, member-insert, member-inserted}
pub use Rattle.tso_terms.specs.Standing.{StandsIn}
pub use Rattle.tso_laws.specs.Entries.{FitsTest}
pub use Rattle.basic_laws.specs.Ranks.{rank, part_of}
pub use Rattle.basic_laws.proofs.Ranks.{is_store_kind, by-rank, is_load_kind, is_write_kind, is_read_kind}
pub use Rattle.std.specs.Prelude.{filter}
pub use Rattle.tso_laws.specs.SoFar.{is_committed, is_waiting, issued, CoreSoFar, IsIssued, SoFar}
pub use Rattle.tso_laws.specs.Choices.{state_after, commits_of, IsPossible}
pub use Rattle.tso_terms.specs.Runs.{stall_count, run, is_done, all_done, has_ended, then_run, resting, run_from, Run, CoresExist}
pub use Rattle.tso_laws.specs.Along.{steps, choices_along, LeadTo, drained, choices_for, places_after, last_steps, choices_from, beginnings}
pub use Rattle.tso_laws.specs.Counting.{store_count, stores_in, most_stores, longest, instructions, stores_of_all}
pub use Rattle.tso_laws.specs.Depth.{needed, stores_before, most_passed, one_for_stores}
pub use Rattle.tso_laws.specs.Reached.{IsReached}
pub use Rattle.std.proofs.Math.ListN.{length-set}
pub use Rattle.tso_laws.specs.Rounds.{Among, CanBeCutIntoRounds, IsRound}
pub use Rattle.std.proofs.lemmas.List.Elements.{All-nil, All-cons, All-head, All-tail, All-append, All-push, All-set, All-filter}
pub use Rattle.tso_terms.specs.Registers.{IsWord, AreRegisters, index_of}
pub use Rattle.tso_laws.specs.Words.{HasWord, HoldsWords}
pub use Rattle.tso_laws.specs.inner.Stopping.{ChangesNothing, StopsAtTheEnd}
pub use Rattle.tso_laws.specs.inner.Depth.{asked}
pub use Rattle.tso_laws.specs.EndedRuns.{IsExecution}
pub use Rattle.tso_terms.specs.Examples.{sb, sb_choices, n6, separated_order, loc_x, loc_y}
pub use Rattle.tso_laws.specs.inner.WorkedRuns.{n6_along, sb_round, one_round}
