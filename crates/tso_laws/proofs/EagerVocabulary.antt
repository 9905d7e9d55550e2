-- The names that the proofs of this crate bring in from definitions and from crates below; each file takes its own from here.
pub use Rattle.std.proofs.Common.{◌≡◌, ◌<◌, ℕ, List, Bool, true, false, length, slice_get, arith, ap, sym, ◌∙◌, subst, ◌≢◌, ◌+◌, zero, suc}
pub use Rattle.std.proofs.Common.{[], ◌∷◌, ◌++◌, Some, slice_set, slice_index, refl, ◌==◌, ◌&&◌, nat_lt, if◌then◌else◌, get_or-set_same}
pub use Rattle.std.proofs.Common.{get_or-set_other, ◌≤◌, map, swap, slice_index_or, inl, inr, Option, None, drop, take}
pub use Rattle.std.proofs.lemmas.Bool.{cases_Bool}
pub use Rattle.tso_terms.specs.Actions.{action_of, location_of}
pub use Rattle.tso_terms.specs.Litmus.{Litmus, KnownLocation}
pub use Rattle.tso_laws.specs.WellFormed.{IsWellFormed}
pub use Rattle.tso_terms.specs.FlatMachine.{CoreState, State, program_of, core_of, Effect, idle, effect_by, step_of, drain_of, applied}
pub use Rattle.tso_terms.specs.FlatMachine.{after_choice, stored, stalled, step, drain, effect_of, memory_after, is_none_pending}
pub use Rattle.tso_terms.specs.FlatMachine.{when_drained, locked, load_value, chosen, start, registers_in, started, loaded, advanced}
pub use Rattle.basic_laws.specs.Types.{Instr, Action, Choice, Step, Drain, W, LR, LW, R, Entry, Stall, Buffered, Committed, Reg, Loc}
pub use Rattle.basic_laws.specs.Types.{Update, Operand, Number, Held}
pub use Rattle.tso_terms.specs.declared.action.Action.TheVariants.{Store, Load, Move, Fence, Lock}
pub use Rattle.tso_laws.specs.Eager.{Avoids, OthersAvoid, IsEagerBy, IsEager, IsEagerStep, IsEagerDrain, meets}
pub use Rattle.tso_laws.specs.Dead.{hidden_of, AreAlike, dead_before, dead_at, cleared, forgotten_core, forgotten_cores, forgotten}
pub use Rattle.tso_laws.specs.Dead.{unless_read, none_hidden, seen_from, seen}
pub use Rattle.std.proofs.lemmas.Bool.Decides.{nat_tests}
pub use Rattle.std.specs.Prelude.{filter, IfSome, ◌⊎◌}
pub use Rattle.tso_terms.specs.Axioms.{last_value}
pub use Rattle.tso_terms.specs.ProgramOrder.{is_write, writes_to}
pub use Rattle.tso_terms.specs.Thread.{entry, value_of, with_value, updated, value_in}
pub use Rattle.std.proofs.Math.ListN.{length-set}
pub use Rattle.std.proofs.lemmas.List.Edits.{length-swap}
pub use Rattle.std.proofs.lemmas.List.{length-map, map-append, set-get_or, set_past}
pub use Rattle.basic_laws.proofs.Cores.{length-starts, all-done, done-at, no-program, no-core}
pub use Rattle.basic_laws.proofs.Basics.{decide, test-true, test-false, lt-or, and-left, and-right}
pub use Rattle.tso_laws.specs.Exchanged.{exchanged_core, exchanged_choice, exchanged_entry, renamed, exchanged, exchanged_by, IsOneOf}
pub use Rattle.tso_laws.specs.Exchanged.{AreOf, AreAllAlike, IsExchangeable, CoresAreAlike}
pub use Rattle.basic_laws.proofs.Lists.{drop-at, drop-end, Each}
pub use Rattle.tso_terms.specs.Registers.{index_of}
pub use Rattle.tso_terms.specs.Runs.{run, stall_count, is_done, all_done, has_ended}
pub use Rattle.tso_laws.specs.Choices.{state_after}
pub use Rattle.tso_laws.specs.inner.Laws.{RunsStopWhereTheyEnd}
pub use Rattle.tso_laws.specs.inner.Ending.{IsDead, Reaches, IsSized}
pub use Rattle.tso_laws.specs.Closed.{LeadsEagerly, IsAmongStates, IsCovered, AreClosed, IsPartlyExpanded, ArePartlyClosed, IsAlikeOneOf}
pub use Rattle.tso_laws.specs.Stubborn.{ChoiceSet, has_step, has_drain, has_choice, HasPending, HasNonePending, IsHeldBack}
pub use Rattle.tso_laws.specs.Stubborn.{OthersAreHeldBack, IsApartBy, IsApartStep, IsApartDrain, IsStubborn}
pub use Rattle.tso_laws.specs.Stubborn.IsHeldBack.{away, by_drain, by_step}
