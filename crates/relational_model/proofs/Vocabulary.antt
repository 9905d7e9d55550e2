-- The names that the proofs of this crate bring in from definitions and from crates below; each file takes its own from here.
pub use Rattle.std.proofs.Common.{◌≡◌, ℕ, ◌+◌, suc, List, [], ◌∷◌, ◌++◌, slice_index, slice_index_or, arith, refl, ap, ◌∙◌, subst, length}
pub use Rattle.std.proofs.Common.{Bool, true, false, ◌==◌, sym, append_assoc, ◌⊎◌, inl, inr, ◌&&◌, ◌||◌, Option, Some, None, ◌<◌, zero}
pub use Rattle.std.proofs.Common.{nat_lt, if◌then◌else◌, slice_get, ◌≤◌, not, ◌≢◌, drop, rules, append-nil}
pub use Rattle.std.specs.Prelude.{filter}
pub use Rattle.tso_terms.specs.Actions.{action_of}
pub use Rattle.tso_terms.specs.Thread.{entry, entries_by, registers_by, values_after, entries_of, registers_after, with_value, fence}
pub use Rattle.tso_terms.specs.Thread.{value_in, value_of, updated}
pub use Rattle.tso_terms.specs.ProgramOrder.{writes_to, is_read, is_before, is_write, same_kind, may_be_passed}
pub use Rattle.tso_terms.specs.Axioms.{last_value, counting, IsTsoExecution, IsAdjacent, KeepsProgramOrder, due_value, HasReadValues}
pub use Rattle.tso_terms.specs.ProgramEntries.{read_values, made_by, made_from, is_at, made, read_value, values_by}
pub use Rattle.tso_terms.specs.FinalState.{word_after, words_from, registers_of, registers_from, final_words, final_registers}
pub use Rattle.tso_terms.specs.Litmus.{Litmus}
pub use Rattle.basic_laws.specs.Types.{Instr, Action, Entry, R, LR, W, LW, F, Kind}
pub use Rattle.tso_terms.specs.declared.action.Action.TheVariants.{Store, Load, Move, Fence, Lock}
pub use Rattle.relational_model.specs.Candidates.{Candidate, events_from, last_word, words_left_from, registers_left_from, events, Returns}
pub use Rattle.relational_model.specs.Candidates.{IsCandidate, registers_left}
pub use Rattle.relational_model.specs.CandidatesOfOrders.{IsCandidateOf, LeaveTheSame, last_in, IsOfAnExecution, IsOfASequentialExecution}
pub use Rattle.std.proofs.lemmas.Bool.Decides.{nat_tests}
pub use Rattle.relational_model.specs.Events.{IsIn, LeadsTo, at_once, onward, IsAcyclic, IsEarlier}
pub use Rattle.relational_model.specs.Model.{ArePair, is_locked_kind, HappensBefore, write_before_write, read_before_access, mfence}
pub use Rattle.relational_model.specs.Model.{implied, rfe, co, fr, IsAllowed, IsForbidden, IsForbiddenByUniproc, IsBeforeOnLocation, po_loc}
pub use Rattle.relational_model.specs.Model.{is_locked, IsAtomic}
pub use Rattle.relational_model.specs.Relations.{ReadsFrom, StandsAfter, FromReads, IsBefore, is_access, share_location}
pub use Rattle.tso_terms.specs.Examples.{loc_x, loc_y, zeros, sb, sb_order, n6, n6_order}
pub use Rattle.relational_model.specs.WorkedCandidates.{of_x_and_y, fenced, fenced_candidate, exchanged, exchanged_candidate, passing}
pub use Rattle.relational_model.specs.WorkedCandidates.{passing_candidate, buffering, buffering_candidate, independent}
pub use Rattle.relational_model.specs.WorkedCandidates.{independent_candidate, between, between_candidate, unseen, unseen_candidate}
pub use Rattle.relational_model.specs.WorkedCandidates.{opposite_registers, sb_candidate, n6_candidate}
pub use Rattle.basic_laws.specs.Ranks.{rank, part_of}
pub use Rattle.basic_laws.proofs.Ranks.{by-rank}
pub use Rattle.relational_model.specs.inner.Rows.{Once, NonePrecedes, GoesForward, LinearExtension, Ordered}
pub use Rattle.tso_terms.specs.SequentialConsistency.{KeepsAllOrder}
pub use Rattle.relational_model.specs.SequentialModel.{IsBeforeSequentially, po, rf, IsSequential}
pub use Rattle.tso_terms.specs.Runs.{run}
pub use Rattle.relational_model.specs.CandidatesOfRuns.{IsCandidateOfRun}
pub use Rattle.tso_terms.specs.Limits.{most_depth}
pub use Rattle.basic_laws.proofs.Basics.{part-small}
