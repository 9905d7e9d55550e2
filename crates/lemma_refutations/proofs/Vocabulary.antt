-- The names that the proofs of this crate bring in from definitions and from crates below; each file takes its own from here.
pub use Rattle.refutation_laws.proofs.Vocabulary.{◌≡◌, ◌&&◌, ◌||◌, Bool, true, false, not, List, [], ◌∷◌, refl, sym, ap, ◌⊎◌, inl, inr}
pub use Rattle.refutation_laws.proofs.Vocabulary.{subst, ◌≢◌, ℕ, ◌==◌, if◌then◌else◌, Option, Some, None, ◌∙◌, ◌++◌, length, ◌<◌, ◌≤◌, zero}
pub use Rattle.refutation_laws.proofs.Vocabulary.{suc, ◌+◌, slice_index, slice_index_or, arith, slice_get, append-nil, append_assoc, map}
pub use Rattle.refutation_laws.proofs.Vocabulary.{filter, slice_set, list_any, list_all}
pub use Rattle.refutation_laws.proofs.Vocabulary.{Entry, F, LR, LW, R, W, Reg, Loc, Instr, Operand, Number, Held, Update, Action, Kind}
pub use Rattle.refutation_laws.proofs.Vocabulary.{Quantifier, Exists, NotExists, Forall, IsIn, IsEarlier, LeadsTo, at_once, onward}
pub use Rattle.refutation_laws.proofs.Vocabulary.{IsAcyclic, in-case, in-none, in-first, in-later, in-filter, filter-in, in-append, in-left}
pub use Rattle.refutation_laws.proofs.Vocabulary.{in-right, last-is-in, last-last, Precedes, from-precedes, at-one}
pub use Rattle.refutation_laws.proofs.Vocabulary.{Litmus, IsTest, IsCondition, is_before, is_read, is_write, writes_to, same_kind}
pub use Rattle.refutation_laws.proofs.Vocabulary.{Candidate, IsCandidate, events, words_left, registers_left, events_from, Returns}
pub use Rattle.refutation_laws.proofs.Vocabulary.{last_word, words_left_from, registers_left_from, is_access, share_location, ReadsFrom}
pub use Rattle.refutation_laws.proofs.Vocabulary.{IsBefore, StandsAfter, FromReads, IsBeforeOnLocation, po_loc, rf, co, fr, HappensBefore}
pub use Rattle.refutation_laws.proofs.Vocabulary.{write_before_write, read_before_access, mfence, implied, rfe, IsAtomic, is_locked}
pub use Rattle.refutation_laws.proofs.Vocabulary.{IsAllowed, ArePair, and-both, or-either, number-same, same-number, write-is-no-read}
pub use Rattle.refutation_laws.proofs.Vocabulary.{writes, kind-itself, equal-kinds, is-false, never-itself, one-way, never-back, stand-once}
pub use Rattle.refutation_laws.proofs.Vocabulary.{location, share, Sound, sound}
pub use Rattle.refutation_laws.proofs.Vocabulary.{IsBeforeSequentially, bare, events_of, same_event, is_event, on_location, global_in}
pub use Rattle.refutation_laws.proofs.Vocabulary.{are_parts, leads_back, is_cycle, IsAllowedBy, IsExecutionOf, HasCandidate, IsFinalStateOf}
pub use Rattle.refutation_laws.proofs.Vocabulary.{HasExecution, HasRun, Claim, truth_of, NamesExist, TruthClaim, RegClaim, LocClaim}
pub use Rattle.refutation_laws.proofs.Vocabulary.{NotClaim, AndClaim, OrClaim, Condition, writes-at, tso-allows, Stands, IsSameSource}
pub use Rattle.refutation_laws.proofs.Vocabulary.{sources_of, asked_claim, asked_by, value_in, last_in}
pub use Rattle.refutation_laws.specs.declared.model.Model.{Model}
pub use Rattle.refutation_laws.specs.declared.model.Model.TheVariants.{Tso, Sequential}
pub use Rattle.refutation_laws.specs.declared.model.Relation.{Relation}
pub use Rattle.refutation_laws.specs.declared.model.Relation.TheVariants.{Mfence, Po, PoLoc, PoGhb, Implied, Rf, Rfe, Co, Fr}
pub use Rattle.possible_reads.specs.Facts.{Fact, From, Before, Last, Returns as ReturnsValue, Holds, given_by, cases_of}
pub use Rattle.possible_reads.specs.Possible.{Values, Reading, can_be, values_of, values_read, sources_read, same_source, reads_it}
pub use Rattle.possible_reads.specs.Possible.{values_written, readings_after, readings, is_last, last_writes, can_be_last, comes_before}
pub use Rattle.possible_reads.specs.Possible.{words_left as words_possible, same_number}
pub use Rattle.possible_reads.specs.Expressions.{Expression, Constant, Returned, Combined, Negated, Exchanged, expression_of, register_left}
pub use Rattle.possible_reads.specs.Laws.{holds_in, register_in, word_in, IsMet, AreMet, IsOneMet, IsPossible, HasSourceAmong, IsOneOf}
pub use Rattle.possible_reads.specs.Laws.{ReadIsPossible, HasLastWrite, ReadingsArePossible, WrittenValuesArePossible, KnownOrderIsRight}
pub use Rattle.possible_reads.specs.Laws.{SomeWriteComesLast, LastWordsArePossible, LastRegistersArePossible, TruthsAreThoseLeft}
pub use Rattle.possible_reads.specs.Laws.{ClaimsGiveFacts, SomeCaseIsMet}
pub use Rattle.lemma_refutations.specs.Edges.{Knowledge, reads_from, overwrites, from_reads, relates, is_edge, is_between}
pub use Rattle.lemma_refutations.specs.Refutations.{known_from, allows, Node, ReadsFrom as AskSource, ReadsValue, Asks, IsReadBy, ComesLast}
pub use Rattle.lemma_refutations.specs.Refutations.{HasCase, OnLocation, Globally, Between, FalseClaim, ByLemma, Lemma, is_written_locked}
pub use Rattle.lemma_refutations.specs.Refutations.{is_impossible, is_known, applies, are_values, is_case, is_source_at, may_be_asked}
pub use Rattle.lemma_refutations.specs.Refutations.{opposite, is_node, locked_readers, unread, answers_of_values, answers_of_cases, answers}
pub use Rattle.lemma_refutations.specs.Refutations.{close, hold, refutes}
pub use Rattle.lemma_refutations.specs.Laws.{IsRefuted}
