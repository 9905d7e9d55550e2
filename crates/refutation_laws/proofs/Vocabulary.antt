-- The names that the proofs of this crate bring in from definitions and from crates below; each file takes its own from here.
pub use Rattle.std.proofs.Common.{◌≡◌, ◌&&◌, ◌||◌, Bool, true, false, not, List, [], ◌∷◌, refl, sym, ap, ◌⊎◌, inl, inr, subst, ◌≢◌, ℕ, ◌==◌}
pub use Rattle.std.proofs.Common.{if◌then◌else◌, Option, Some, None, ◌∙◌, ◌++◌, length, ◌<◌, ◌≤◌, zero, suc, ◌+◌, slice_index}
pub use Rattle.std.proofs.Common.{slice_index_or, arith, slice_get, append-nil, append_assoc}
pub use Rattle.std.specs.Prelude.{map, filter, slice_set}
pub use Rattle.std.specs.List.{list_any, list_all}
pub use Rattle.basic_laws.specs.Types.{Entry, F, LR, LW, R, W, Reg, Eax, Ebx, Ecx, Edx, Esi, Edi, Loc, Instr, Operand, Number, Held, Update}
pub use Rattle.basic_laws.specs.Types.{Action, Kind, Quantifier, Exists, NotExists, Forall}
pub use Rattle.relational_model.specs.Events.{IsIn, IsEarlier, LeadsTo, at_once, onward, IsAcyclic}
pub use Rattle.relational_model.proofs.Lists.{in-case, in-none, in-first, in-later, in-filter, filter-in, in-append, in-left, in-right}
pub use Rattle.relational_model.proofs.Lists.{last-is-in, last-last, Precedes, from-precedes, at-one}
pub use Rattle.tso_terms.specs.Litmus.{Litmus, IsTest, IsCondition}
pub use Rattle.tso_terms.specs.ProgramOrder.{is_before, is_read, is_write, writes_to, same_kind, may_be_passed}
pub use Rattle.relational_model.specs.Candidates.{Candidate, IsCandidate, events, words_left, registers_left, events_from, Returns}
pub use Rattle.relational_model.specs.Candidates.{last_word, words_left_from, registers_left_from}
pub use Rattle.relational_model.specs.Relations.{is_access, share_location, ReadsFrom, IsBefore, StandsAfter, FromReads}
pub use Rattle.relational_model.specs.Model.{IsBeforeOnLocation, po_loc, rf, co, fr, HappensBefore, write_before_write, read_before_access}
pub use Rattle.relational_model.specs.Model.{mfence, implied, rfe, IsAtomic, is_locked, IsAllowed, ArePair}
pub use Rattle.relational_model.proofs.KindFacts.{and-both, or-either, number-same, same-number, write-is-no-read, writes}
pub use Rattle.relational_model.proofs.Found.{kind-itself, at-itself, equal-kinds, apart-three, is-false}
pub use Rattle.relational_model.proofs.Sources.{never-itself, one-way, never-back}
pub use Rattle.relational_model.proofs.Order.{stand-once, location, share}
pub use Rattle.relational_model.proofs.Forward.{starts-in}
pub use Rattle.relational_model.specs.inner.Rows.{Ordered, GoesForward, Once, LinearExtension}
pub use Rattle.relational_model.proofs.Events.{Sound, sound, same-events-from, halves}
pub use Rattle.relational_model.specs.SequentialModel.{IsBeforeSequentially}
pub use Rattle.refutation_laws.specs.Known.{Known, bare, events_of, same_event, is_event, is_write_of, reads_from, comes_before}
pub use Rattle.refutation_laws.specs.Known.{is_overwritten, from_reads, nothing, with_source, with_pair}
pub use Rattle.refutation_laws.specs.declared.known.Source.{Source}
pub use Rattle.refutation_laws.specs.Edges.{relates, on_location, global_in, is_edge, are_parts, is_between, leads_back, is_cycle}
pub use Rattle.refutation_laws.specs.Models.{IsAllowedBy, IsExecutionOf, IsMet, IsRefuted, HasCandidate, IsFinalStateOf, HasExecution, HasRun}
pub use Rattle.refutation_laws.specs.declared.model.Model.{Model}
pub use Rattle.refutation_laws.specs.declared.model.Model.TheVariants.{Tso, Sequential}
pub use Rattle.refutation_laws.specs.declared.model.Relation.{Relation}
pub use Rattle.refutation_laws.specs.declared.model.Relation.TheVariants.{Mfence, Po, PoLoc, PoGhb, Implied, Rf, Rfe, Co, Fr}
pub use Rattle.refutation_laws.specs.inner.FullCases.{IsPossibleSource, NoneBetween, ArePossible, has_source, are_ordered, may_ask}
pub use Rattle.refutation_laws.specs.inner.FullCases.{is_answered, IsFull, AreSingle, AreOfReads, ArePairsOfWrites, IsSound}
pub use Rattle.tso_terms.specs.Condition.{Claim, truth_of, NamesExist, TruthClaim, RegClaim, LocClaim, NotClaim, AndClaim, OrClaim, Condition}
pub use Rattle.relational_model.proofs.Uniproc.{writes-at}
pub use Rattle.relational_model.proofs.SequentialFacts.{tso-allows}
pub use Rattle.refutation_laws.specs.Values.{allows, known_in, known_operand, known_update, write_with, word_given, writes_by}
pub use Rattle.refutation_laws.specs.Values.{registers_left_by, writes_of, left_of, known_first_registers, writes_from, value_among}
pub use Rattle.refutation_laws.specs.Values.{returned_from, returned, known_writes, all_known, value_read, can_be, words_at_end}
pub use Rattle.refutation_laws.specs.Values.{register_at_end, can_be_last}
pub use Rattle.refutation_laws.specs.Agreement.{Stands, IsSameSource, Agrees, HasSources, HasPairs}
pub use Rattle.refutation_laws.specs.Refutations.{Node, ComesFirst, OnLocation, Globally, Between, FalseClaim, sources_of, is_node}
pub use Rattle.refutation_laws.specs.Refutations.{branches, close, refutes, asked_claim, asked_by}
pub use Rattle.tso_terms.specs.Registers.{index_of, AreRegisters}
pub use Rattle.tso_terms.specs.Actions.{action_of}
pub use Rattle.tso_terms.specs.Thread.{entry, value_in, value_of, updated, entries_by, registers_by, values_after, entries_of, registers_after, sum_of, fence}
pub use Rattle.tso_terms.specs.declared.action.Action.TheVariants.{Store, Load, Move, Fence, Lock}
pub use Rattle.basic_laws.specs.Ranks.{rank, part_of}
pub use Rattle.basic_laws.proofs.Basics.{part-small}
pub use Rattle.relational_model.proofs.Ranks.{rank-before, before-trans, order-of}
pub use Rattle.relational_model.proofs.Same.{only, here-by, from-place}
pub use Rattle.refutation_laws.specs.declared.known.Pair.{Pair}
pub use Rattle.basic_laws.proofs.Lists.{Member}
pub use Rattle.refutation_laws.specs.Shown.{value_known, first_that_relates}
pub use Rattle.tso_terms.specs.ProgramEntries.{is_at}
pub use Rattle.tso_terms.specs.FinalState.{final_words, final_registers}
pub use Rattle.relational_model.specs.CandidatesOfOrders.{LeaveTheSame, last_in, IsCandidateOf}
pub use Rattle.relational_model.proofs.Fences.{parts, true-or}
pub use Rattle.relational_model.proofs.Decisions.{Goes, member, number, is-true}
pub use Rattle.relational_model.proofs.Together.{Toward, pair, answer, load-of, put, in-put, toward, pair-goes, way, others, is-other, other-is}
pub use Rattle.relational_model.proofs.Converse.{CanBeKept, IsKeptIn, in-order, goes-kept}
pub use Rattle.relational_model.proofs.SequentialOrders.{Step, keeps, step-kept}
pub use Rattle.refutation_laws.specs.inner.Orders.{is_kept_by, must_precede, comes_toward, is_load_part, IsLinearExtension, value_or_zero}
pub use Rattle.refutation_laws.specs.inner.Orders.{value_in_order, valued, with_loads, order_along}
pub use Rattle.relational_model.proofs.Sorting.{in-a-row, Decided, ordered-or-round}
pub use Rattle.tso_terms.specs.Axioms.{IsTsoExecution}
pub use Rattle.tso_terms.specs.Limits.{most_depth}
pub use Rattle.tso_terms.specs.Runs.{run, Run}
pub use Rattle.tso_terms.specs.FlatMachine.{registers_in}
pub use Rattle.relational_model.specs.CandidatesOfRuns.{IsCandidateOfRun}
pub use Rattle.tso_laws.specs.Outcomes.{IsEnd}
pub use Rattle.tso_terms.specs.Examples.{sb, n6}
pub use Rattle.relational_model.specs.WorkedCandidates.{sb_candidate, n6_candidate}
pub use Rattle.refutation_laws.specs.Worked.{both_zero, own_last}
pub use Rattle.std.proofs.lemmas.List.{map-append, length-set}
