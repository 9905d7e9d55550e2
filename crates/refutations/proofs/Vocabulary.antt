-- The names that the proofs of this crate bring in from definitions and from crates below; each file takes its own from here.
pub use Rattle.std.proofs.Common.{◌≡◌, ◌<◌, ◌+◌, ℕ, List, [], ◌++◌, length, slice_index, slice_index_or, drop, append_assoc, sym, ap, ◌∙◌}
pub use Rattle.std.proofs.Common.{map, ◌≤◌, ◌∷◌, get_or, ◌&&◌, ◌||◌, cond, Bool, true, false, Option, if◌then◌else◌, refl, Some, None, suc}
pub use Rattle.std.proofs.Common.{arith, ◌==◌, subst, zero, ◌⊎◌, inl, inr, rules, append-nil}
pub use Rattle.std.proofs.lemmas.List.{at_drop_more, at_drop_all, map-append}
pub use Rattle.tso_terms.specs.Thread.{entries_of}
pub use Rattle.basic_laws.specs.Types.{Instr, Entry}
pub use Rattle.relational_model.specs.Candidates.{events_from}
pub use Rattle.refutation_laws.specs.Known.{bare, Known, same_event, is_write_of, reads_from, is_overwritten}
pub use Rattle.refutation_laws.specs.Known.{from_reads, comes_before, events_of, is_event}
pub use Rattle.refutation_laws.proofs.Standing.{by-program}
pub use Rattle.std.specs.Prelude.{filter}
pub use Rattle.std.specs.List.{list_any, list_all}
pub use Rattle.tso_terms.specs.Litmus.{Litmus}
pub use Rattle.tso_terms.specs.ProgramOrder.{writes_to}
pub use Rattle.refutation_laws.specs.Values.{all_known, value_among, known_writes, writes_of, left_of}
pub use Rattle.refutation_laws.specs.Values.{writes_from, known_first_registers, returned}
pub use Rattle.refutation_laws.specs.declared.known.Pair.{Pair}
pub use Rattle.refutation_laws.specs.Edges.{is_cycle, leads_back}
pub use Rattle.std.proofs.lemmas.Bool.Decides.{nat_tests}
pub use Rattle.tso_terms.specs.Condition.{Claim}
pub use Rattle.refutations.specs.inner.Trees.{known_of, relations_of}
pub use Rattle.std.specs.Cmp.Lexicographic.{pointwise}
pub use Rattle.refutation_laws.specs.declared.known.Source.{Source}
pub use Rattle.relational_model.proofs.KindFacts.{and-both}
