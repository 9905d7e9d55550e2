-- The names that the proofs of this crate bring in from definitions and from crates below; each file takes its own from here.
pub use Rattle.std.proofs.Common.{◌≡◌, ◌<◌, ◌+◌, ◌==◌, ℕ, suc, Bool, true, false, not, if◌then◌else◌, List, [], ◌∷◌, ◌++◌, length, arith}
pub use Rattle.std.proofs.Common.{refl, sym, ap, ◌∙◌, ◌⊎◌, inl, inr, subst, ◌-◌, Option, Some, None, option_map, slice_index_or, map, ◌≤◌}
pub use Rattle.std.proofs.Common.{◌*◌, ◌&&◌, ◌||◌, drop, take, length-append}
pub use Rattle.std.proofs.lemmas.List.{drop_all, append-nil}
pub use Rattle.std.specs.Prelude.{filter, ◌/◌}
pub use Rattle.std.specs.List.{list_any, list_all}
pub use Rattle.basic_laws.specs.Types.{Entry, Quantifier, Exists, NotExists, Forall}
pub use Rattle.relational_model.specs.Events.{IsIn}
pub use Rattle.relational_model.proofs.Lists.{in-none, in-first, in-later, in-append, in-left, in-right, in-filter, filter-in, in-case, Precedes}
pub use Rattle.relational_model.proofs.KindFacts.{same-number, number-same, and-both}
pub use Rattle.relational_model.proofs.Sizes.{once-filter, no-more, picked-and-left}
pub use Rattle.relational_model.proofs.Events.{once-append, once-events}
pub use Rattle.relational_model.specs.inner.Rows.{Once, Ordered}
pub use Rattle.refutation_laws.proofs.Tests.{any-in, and-of, or-first, Holds, any-holds, or-second, from-not, clash, pick, pass}
pub use Rattle.found_reasons.specs.inner.Precedence.{is_first, IsParted, IsSorted, edge_by}
pub use Rattle.std.specs.Global.{Vec}
pub use Rattle.tso_terms.specs.Litmus.{Litmus, IsTest, IsCondition}
pub use Rattle.refutation_laws.specs.Known.{bare, same_event, is_event, events_of, Known, nothing, with_source, comes_before, with_pair}
pub use Rattle.refutation_laws.specs.Edges.{leads_back, is_cycle, on_location, global_in, are_parts}
pub use Rattle.lemma_refutations.specs.Edges.{Knowledge, is_edge, is_between}
pub use Rattle.refutation_checker.specs.inner.Branches.{knowledge_of}
pub use Rattle.refutation_laws.proofs.Standing.{same-bare}
pub use Rattle.refutation_laws.proofs.Soundness.{itself, bare-same}
pub use Rattle.refutation_laws.proofs.Settling.{is-event, IsOpen}
pub use Rattle.found_reasons.specs.inner.Cycles.{up_to, CycleOrOrdered}
pub use Rattle.std.proofs.lemmas.Nat.{mul-le}
pub use Rattle.std.proofs.Math.Nat.{div-lt_iff_lt-mul}
pub use Rattle.std.proofs.lemmas.List.{length_push, length-map}
pub use Rattle.tso_terms.specs.ProgramOrder.{is_read, is_write, writes_to, is_store}
pub use Rattle.refutation_laws.specs.Refutations.{sources_of, branches, asked_claim, asked_by}
pub use Rattle.possible_reads.specs.Facts.{Fact, From, Before, Last, Returns, Holds as HoldsAtEnd, given_by}
pub use Rattle.possible_reads.specs.Possible.{Reading, sources_read, readings, readings_after}
pub use Rattle.possible_reads.specs.Laws.{LastWordsArePossible}
pub use Rattle.lemma_refutations.specs.Refutations.{Node, ReadsFrom, ReadsValue, Asks, IsReadBy, ComesLast, HasCase, OnLocation, Globally}
pub use Rattle.lemma_refutations.specs.Refutations.{Between, FalseClaim, ByLemma, known_from, is_impossible, is_node, answers, close}
pub use Rattle.lemma_refutations.specs.Refutations.{refutes}
pub use Rattle.lemma_refutations.proofs.Lists.{Has, has-none}
pub use Rattle.reading_tables.specs.Told.{fact_of, facts_of}
pub use Rattle.refutation_checker.specs.inner.Stack.{branches_of}
pub use Rattle.refutation_laws.specs.inner.FullCases.{has_source, are_ordered, may_ask, is_answered, IsFull, IsSound, IsPossibleSource, NoneBetween}
pub use Rattle.found_reasons.specs.Reasons.{product, sources_in, orders_in, all_orders, most_cases, counted_as}
pub use Rattle.refutation_checker.specs.Trees.{node_of}
pub use Rattle.found_reasons.specs.inner.Answered.{sources_told, pairs_told, answers_told, as_question, as_node}
pub use Rattle.found_reasons.specs.inner.Questions.{is_unread, is_unordered, first_where, first_beside, pair_or, first_pair, question_of}
pub use Rattle.found_reasons.specs.inner.Questions.{read_or, first_unread, next_question}
pub use Rattle.tso_terms.specs.Condition.{Claim, Condition, NamesExist}
pub use Rattle.refutation_laws.specs.declared.model.Model.{Model}
pub use Rattle.refutations.specs.inner.Trees.{known_of, relations_of}
pub use Rattle.refutations.specs.declared.answers.Answers.{Answers}
pub use Rattle.found_reasons.specs.inner.Cases.{given_at_first, below, IsBranch, HasNoLeaf, IsAllowedCase, LeafIfAny, first_of_two, write_between_these}
pub use Rattle.found_reasons.specs.inner.Cases.{write_between_from, first_write_between, IsCaseStep, AreOpenAfter, QuestionOrFull}
pub use Rattle.found_reasons.specs.inner.Cases.{is_none_left, has_no_source, read_of}
pub use Rattle.std.proofs.lemmas.List.{set-get_or, length-set, nil_from_length}
pub use Rattle.tso_laws.specs.Along.{steps, drained, choices_for, places_after, last_steps, choices_from, beginnings, choices_along, LeadTo}
pub use Rattle.found_reasons.specs.inner.Steps.{is_step}
pub use Rattle.relational_model.proofs.Converse.{forward-append, forward-if}
