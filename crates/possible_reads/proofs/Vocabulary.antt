-- The names that the proofs of this crate bring in from definitions and from crates below; each file takes its own from here.
pub use Rattle.refutation_laws.proofs.Vocabulary.{◌≡◌, ◌&&◌, ◌||◌, Bool, true, false, not, List, [], ◌∷◌, refl, sym, ap, ◌⊎◌, inl, inr}
pub use Rattle.refutation_laws.proofs.Vocabulary.{subst, ◌≢◌, ℕ, ◌==◌, if◌then◌else◌, Option, Some, None, ◌∙◌, ◌++◌, length, ◌<◌, ◌≤◌, zero}
pub use Rattle.refutation_laws.proofs.Vocabulary.{suc, ◌+◌, slice_index, slice_index_or, arith, slice_get, append-nil, append_assoc, map}
pub use Rattle.refutation_laws.proofs.Vocabulary.{filter, slice_set, list_any, list_all, map-append}
pub use Rattle.std.specs.Prelude.{nat_lt}
pub use Rattle.std.proofs.lemmas.Bool.Decides.{nat_tests}
pub use Rattle.std.proofs.lemmas.List.Elements.{filter-append}
pub use Rattle.refutation_laws.proofs.Vocabulary.{Entry, LR, LW, R, W, Reg, Instr, Operand, Number, Held, Update, Action, Kind, Store, Load}
pub use Rattle.refutation_laws.proofs.Vocabulary.{Move, Fence, Lock, Litmus, action_of, index_of, entry, value_in, updated, entries_by}
pub use Rattle.refutation_laws.proofs.Vocabulary.{registers_by, values_after, entries_of, registers_after, sum_of, fence}
pub use Rattle.refutation_laws.proofs.Vocabulary.{IsIn, in-case, in-none, in-first, in-later, in-filter, filter-in, in-append, in-left}
pub use Rattle.refutation_laws.proofs.Vocabulary.{in-right, bare, events_of, same_event, Stands, IsSameSource, Candidate, IsCandidate}
pub use Rattle.refutation_laws.proofs.Vocabulary.{events, events_from, is_read, is_write, writes_to, is_before, same_kind, Sound, sound}
pub use Rattle.refutation_laws.proofs.Vocabulary.{IsAllowed, number-same, same-number, and-both, or-either}
pub use Rattle.refutation_laws.proofs.Vocabulary.{IsEarlier, Precedes, from-precedes, last-last, last-is-in, last_in, never-itself}
pub use Rattle.refutation_laws.proofs.Vocabulary.{never-back, stand-once, one-way, location, share, is-false, IsAcyclic, at_once, onward}
pub use Rattle.refutation_laws.proofs.Vocabulary.{IsBefore, StandsAfter, FromReads, ReadsFrom, IsBeforeOnLocation, po_loc, rf, co, fr}
pub use Rattle.refutation_laws.proofs.Vocabulary.{writes-at, last_word}
pub use Rattle.refutation_laws.proofs.Vocabulary.{equal-kinds, kind-itself, part_of, ArePair}
