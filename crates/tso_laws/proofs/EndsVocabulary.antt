-- The names that the proofs of this crate bring in from definitions and from crates below; each file takes its own from here.
pub use Rattle.std.proofs.Common.{◌≡◌, ◌<◌, ℕ, ◌+◌, zero, suc, List, [], ◌∷◌, ◌++◌, Some, slice_get, slice_set, slice_index_or, length, ◌⊎◌}
pub use Rattle.std.proofs.Common.{arith, ap, sym, ◌∙◌, subst, refl, get_or-set_same, Bool, true, false, Option, None, inl, inr}
pub use Rattle.std.proofs.Common.{if◌then◌else◌, get_or-set_other, nat_lt, ◌==◌, append_assoc, max, ◌≤◌, ◌&&◌, filter}
pub use Rattle.tso_terms.specs.Actions.{action_of}
pub use Rattle.tso_terms.specs.Litmus.{Litmus, IsTest}
pub use Rattle.tso_laws.specs.WellFormed.{IsWellFormed}
pub use Rattle.tso_terms.specs.Thread.{entry, value_of}
pub use Rattle.tso_terms.specs.FlatMachine.{CoreState, State, idle, advanced, advanced_with, moved, step_of, core_of, program_of, effect_of}
pub use Rattle.tso_terms.specs.FlatMachine.{after_choice, applied, step, Effect, is_none_pending, stalled, stored, when_drained, effect_by}
pub use Rattle.tso_terms.specs.FlatMachine.{drain_of, memory_after, drain, chosen, loaded, load_value, started, start}
pub use Rattle.basic_laws.specs.Types.{Instr, Loc, Reg, Operand, Entry, W, R, Action, Choice, Stall, Committed, Buffered, Stalled, Step, Drain}
pub use Rattle.tso_terms.specs.declared.action.Action.TheVariants.{Store, Move, Load, Fence, Lock}
pub use Rattle.tso_terms.specs.Runs.{CoresExist, is_done, all_done, has_ended, run}
pub use Rattle.tso_laws.specs.Choices.{state_after, commits_of}
pub use Rattle.tso_laws.specs.Along.{steps}
pub use Rattle.basic_laws.proofs.Basics.{decide, and-left, and-right, before}
pub use Rattle.basic_laws.proofs.Lists.{append-nil, Member, member-at}
pub use Rattle.tso_laws.specs.inner.Laws.{StallsChangeNothing, RunsStopWhereTheyEnd}
pub use Rattle.std.proofs.Math.ListN.{length-set}
pub use Rattle.tso_laws.specs.Counting.{instructions, stores_of_all}
pub use Rattle.tso_laws.specs.Laws.{RunsAreCounted, RunsReachExactlyTheExecutions}
pub use Rattle.tso_laws.specs.Outcomes.{LeadToEnd, ChoicesToAnEndAreCounted, IsSequentiallyConsistent}
pub use Rattle.tso_laws.specs.Outcomes.{UnbufferedRunsReachExactlyTheSequentiallyConsistent, IsEnd, IsAllowedAtDepth, IsAllowedByTso}
pub use Rattle.tso_laws.specs.Outcomes.{IsAllowedSequentially, EndsAreWhatTsoAllows}
pub use Rattle.tso_terms.specs.Axioms.{IsTsoExecution}
pub use Rattle.tso_terms.specs.SequentialConsistency.{KeepsAllOrder}
pub use Rattle.tso_laws.specs.EndedRuns.{End, IsExecution}
pub use Rattle.tso_laws.specs.Reached.{IsReached}
pub use Rattle.tso_terms.specs.Limits.{most_depth}
pub use Rattle.tso_terms.specs.FinalState.{final_words, final_registers}
pub use Rattle.tso_terms.specs.ProgramOrder.{is_before, is_load, is_store}
pub use Rattle.tso_laws.specs.Depth.{stores_before, most_passed, one_for_stores, needed}
