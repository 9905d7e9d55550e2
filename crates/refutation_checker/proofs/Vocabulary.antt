-- The names that the proofs of this crate bring in from definitions and from crates below; each file takes its own from here.
pub use Rattle.refutations.proofs.Vocabulary.{◌≡◌, ◌<◌, ◌≤◌, ◌+◌, ◌==◌, ◌&&◌, ◌||◌, ℕ, zero, suc, Bool, true, false, cond, if◌then◌else◌}
pub use Rattle.refutations.proofs.Vocabulary.{List, [], ◌∷◌, ◌++◌, length, drop, get_or, Option, Some, None, refl, sym, ap, ◌∙◌, subst, map}
pub use Rattle.refutations.proofs.Vocabulary.{filter, list_any, list_all, arith, rules, append_assoc, append-nil, at_drop_more, at_drop_all}
pub use Rattle.refutations.proofs.Vocabulary.{nat_tests, Litmus, Entry, is_event, writes_to, is_cycle, leads_back, relations_of, Claim}
pub use Rattle.refutations.proofs.Vocabulary.{events_of}
pub use Rattle.refutation_laws.specs.declared.model.Relation.{Relation}
pub use Rattle.refutation_laws.specs.declared.model.Model.{Model}
pub use Rattle.lemma_refutations.specs.Edges.{Knowledge, overwrites, relates, is_edge}
pub use Rattle.lemma_refutations.specs.Shown.{first_that_relates}
pub use Rattle.reading_tables.specs.Told.{facts_of, fact_of}
pub use Rattle.reading_tables.specs.inner.Told.{known_of}
pub use Rattle.reading_tables.specs.inner.Tables.{readings_of, IsTold}
pub use Rattle.refutation_checker.specs.inner.Branches.{knowledge_of}
pub use Rattle.lemma_refutations.specs.Refutations.{is_impossible, is_known, allows}
pub use Rattle.possible_reads.specs.Possible.{can_be_last, same_source}
pub use Rattle.refutation_laws.specs.Known.{same_event}
pub use Rattle.refutation_checker.specs.inner.Stack.{branches_of}
pub use Rattle.refutation_checker.specs.inner.Readers.{reads_word, is_locked_write}
pub use Rattle.refutation_checker.specs.Trees.{lemma_of, node_of}
pub use Rattle.std.proofs.Common.{take}
