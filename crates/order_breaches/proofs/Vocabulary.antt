-- The names that the proofs of this crate bring in from definitions and from crates below; each file takes its own from here.
pub use Rattle.std.proofs.Common.{◌≡◌, ◌<◌, ◌≤◌, ℕ, ◌+◌, suc, zero, List, length, Some, slice_get, Bool, true, false, arith, ap, sym, ◌∙◌}
pub use Rattle.std.proofs.Common.{◌⊎◌, inl, inr, subst, [], ◌∷◌, ◌++◌, filter, refl, cond, ◌==◌, ◌&&◌, ◌||◌, if◌then◌else◌, slice_index}
pub use Rattle.std.proofs.Common.{slice_index_or, length-append, Option, None, take, drop, not, ◌≢◌, ◌*◌, IfSome, All, map, slice_set}
pub use Rattle.std.proofs.Common.{replicate, max, nat_lt, get_or, append_assoc, append-nil, IsNone}
pub use Rattle.std.proofs.lemmas.Bool.{cases_Bool, cases_lt, false_from_ne_true, cases_order, eq-eqb, eqb-true, and_parts, cases_eq}
pub use Rattle.std.proofs.lemmas.Bool.{and_from, not_from_false, not-true, ne_eqb, and_left, and_right, not_from_true, lt-ltb, ltb-true}
pub use Rattle.std.proofs.lemmas.Bool.{ltb-false, eqb-false}
pub use Rattle.std.proofs.lemmas.Option.{slice_get_within, slice_get_cases, slice_get-get_or, get_or_from_slice_get}
pub use Rattle.basic_laws.specs.Types.{Entry, Kind, R, W, F, LR, LW, Instr, Action}
pub use Rattle.order_breaches.specs.First.{NoneBefore, IsEarliest, IsNowhere, IsFirst}
pub use Rattle.tso_terms.specs.ProgramOrder.{writes_to, is_before, same_kind, is_read, is_write, may_be_passed, IsStorePart, is_load, is_store}
pub use Rattle.tso_terms.specs.Axioms.{last_value, counting, IsWhole, KeepsProgramOrder, IsAdjacent, HasReadValues, due_value, IsTsoExecution}
pub use Rattle.tso_terms.specs.Thread.{entry, fence, entries_by, registers_by, values_after, entries_of, value_in, value_of, updated, is_reading, reads_in}
pub use Rattle.basic_laws.specs.Ranks.{rank, part_of}
pub use Rattle.basic_laws.proofs.Ranks.{is_read_kind, is_write_kind, by-rank, is_load_kind}
pub use Rattle.tso_terms.specs.ProgramEntries.{is_at, read_value, values_by, made_by, made_from, made, read_values}
pub use Rattle.order_breaches.specs.Entries.{same_action, same_but_value, IsExtra, IsStray, IsMissing, IsWrongWrite, written_value, IsTwice}
pub use Rattle.tso_terms.specs.Actions.{action_of, location_of}
pub use Rattle.tso_terms.specs.Litmus.{Litmus, KnownLocation, IsProgram, IsTest}
pub use Rattle.tso_terms.specs.declared.action.Action.TheVariants.{Store, Load, Move, Fence, Lock}
pub use Rattle.basic_laws.proofs.Lists.{Each, each-append, Member, member-at, each-at}
pub use Rattle.basic_laws.proofs.Basics.{not-itself, max-left, max-right, max-first, max-second, le-cases}
pub use Rattle.order_breaches.specs.AxiomBreaches.{IsLate, IsSeparated, IsWrongRead, due_at, Overtakes, must_stand_before}
pub use Rattle.order_breaches.specs.FirstBreach.{IsFirstBreach}
pub use Rattle.order_breaches.specs.declared.breach.Breach.{Breach}
pub use Rattle.order_breaches.specs.declared.breach.Breach.TheVariants.{Extra, Twice, Missing, WrongValue, ProgramOrder, NotAdjacent, ReadValue, NoMemory}
pub use Rattle.order_breaches.specs.inner.Programs.{reads_of_all, made_reading, kept_in, reads_that_came}
pub use Rattle.order_breaches.specs.inner.Slots.{Precedes, Ascends, IsEntryWithin, EntriesAreWithin, slot_of, IsIndex, HasCome, HasNotCome}
pub use Rattle.order_breaches.specs.inner.Slots.{slots_of_a_core, NamesStray}
pub use Rattle.std.proofs.lemmas.List.{map-append, get_or-set_same, get_or-set_other, take_more, get_or_push, get_or_append_left}
pub use Rattle.std.proofs.lemmas.List.{at_drop_more, at_drop_all, length-set}
pub use Rattle.std.specs.Option.{is_some, unwrap_or}
pub use Rattle.order_breaches.specs.inner.Progress.{reached, reached_but_for_loads, words_with, is_late}
pub use Rattle.order_breaches.specs.inner.Sources.{own_write, noted_write, IsSource, IsLastOwn, due_from, IsDueFrom}
pub use Rattle.std.proofs.lemmas.Bool.Decides.{leb_tells}
pub use Rattle.order_breaches.specs.inner.Matched.{IsMatched, AreOfPrograms}
pub use Rattle.order_breaches.specs.inner.Passing.{IsFound, HasMet, IsFirstWrongWrite, IsFirstWrongRead, NamesWrongWrite, NamesWrongRead, first_of_two}
pub use Rattle.order_breaches.specs.declared.met.Met.{Met}
pub use Rattle.order_breaches.specs.inner.FirstBreach.{TellsFirstBreach}
