-- The names that the proofs of this crate bring in from definitions and from crates below; each file takes its own from here.
pub use Rattle.refutations.proofs.Vocabulary.{◌≡◌, ◌<◌, ◌+◌, ℕ, List, [], ◌++◌, length, slice_index, slice_index_or, drop, append_assoc}
pub use Rattle.refutations.proofs.Vocabulary.{sym, ap, ◌∙◌, map, ◌≤◌, ◌∷◌, get_or, ◌&&◌, ◌||◌, cond, Bool, true, false, Option}
pub use Rattle.refutations.proofs.Vocabulary.{if◌then◌else◌, refl, Some, None, suc, arith, ◌==◌, subst, zero, ◌⊎◌, inl, inr, rules}
pub use Rattle.refutations.proofs.Vocabulary.{append-nil, at_drop_more, at_drop_all, map-append, filter, list_any, list_all, Litmus, Instr}
pub use Rattle.refutations.proofs.Vocabulary.{Entry}
pub use Rattle.refutations.proofs.Walking.{one-more, all-done, appended, all-appended}
