-- The names that the proofs of this crate bring in from definitions and from crates below; each file takes its own from here.
pub use Rattle.std.proofs.Common.{◌≡◌, ◌<◌, ◌≤◌, ℕ, ◌+◌, zero, suc, List, [], ◌∷◌, ◌++◌, length, map, swap, take, drop, Some, slice_get}
pub use Rattle.std.proofs.Common.{slice_set, slice_index_or, inl, inr, arith, ap, sym, ◌∙◌, subst, refl, append_assoc, Bool, ◌-◌, true}
pub use Rattle.std.proofs.Common.{false, slice_index, if◌then◌else◌, length-append, ◌==◌, ◌||◌, ◌&&◌, rules, eqb, get_or, ◌≢◌}
pub use Rattle.std.proofs.lemmas.Option.{slice_get-get_or}
pub use Rattle.basic_laws.proofs.Basics.{lt-or, and-left, and-right}
pub use Rattle.basic_laws.proofs.Lists.{drop-at, append-nil, drop-end}
pub use Rattle.tso_terms.specs.Litmus.{Litmus, IsTest}
pub use Rattle.tso_terms.specs.FlatMachine.{State, CoreState, idle, program_of, after_choice, effect_of, start, chosen, step, drain}
pub use Rattle.tso_terms.specs.FlatMachine.{core_of, is_none_pending, step_of, drain_of, registers_in, started}
pub use Rattle.basic_laws.specs.Types.{Choice, Instr, Entry, Step, Drain, Action}
pub use Rattle.tso_laws.specs.Exchanged.{exchanged, exchanged_by, IsOneOf, AreOf, CoresAreAlike, AreAllAlike, AlikeCoresAreExchangeable}
pub use Rattle.tso_laws.specs.Exchanged.{exchanged_core, exchanged_choice, renamed, IsExchangeable, exchanged_entry}
pub use Rattle.flat_machine.specs.State.{core_of_processor, state_of_snapshot}
pub use Rattle.explorer.specs.inner.Arranged.{played, IsArranged, ArePairs, HasExchanged, AreExchanged}
pub use Rattle.explorer.specs.declared.link.Turn.{Turn}
pub use Rattle.flat_machine.specs.declared.snapshot.Processor.{Processor}
pub use Rattle.flat_machine.proofs.Choosing.{map-set, beyond, map-at, on-ok-2, stall-why, takes-effect, on-ok, core-at}
pub use Rattle.tso_terms.specs.Limits.{most_depth}
pub use Rattle.tso_laws.proofs.WellFormed.{well-formed}
pub use Rattle.tso_laws.specs.Outcomes.{IsEnd, LeadToEnd, EndsAreWhatTsoAllows}
pub use Rattle.explorer.specs.FinalStates.{AreReached, HaveEveryEnd, AreWhatTsoAllows, AreWhatSequentialConsistencyAllows, IsReachable}
pub use Rattle.explorer.specs.FinalStates.{HasMoreStates, Have, AreDistinct}
pub use Rattle.explorer.specs.declared.final_states.FinalState.{FinalState}
pub use Rattle.tso_laws.specs.Dead.{dead_at, cleared, hidden_of, forgotten_core, forgotten_cores, forgotten, DeadRegistersChangeNothing}
pub use Rattle.tso_laws.specs.Dead.{dead_before, AreAlike, seen}
pub use Rattle.explorer.specs.inner.Planned.{AreDead}
pub use Rattle.std.specs.List.{list_any, AllByRecursion}
unfoldable pub use Rattle.std.specs.List.{IsDistinct}
pub use Rattle.indexmap.specs.IndexSet.{insert_key}
pub use Rattle.tso_terms.specs.Runs.{stall_count, CoresExist, is_done, all_done, has_ended, resting, then_run, run_from, run}
pub use Rattle.tso_laws.specs.Eager.{IsEager, IsEagerBy, Avoids, meets}
pub use Rattle.tso_laws.specs.Closed.{LeadsEagerly, IsAmongStates, IsCovered, IsExpandedEnough, ArePartlyClosed, PartlyClosedStatesMissNone}
pub use Rattle.explorer.specs.Settled.{LeadsBy, LeadsToForgotten}
pub use Rattle.explorer.specs.inner.Settled.{IsSettled}
pub use Rattle.explorer.specs.inner.Settled.{Grows, IsKeptState, HaveCores, IsCurrent, LeadOn, AreAppended, IsReachedByChoice, IsVisited}
pub use Rattle.explorer.specs.inner.Settled.{ArePicksVisited, AreLinked, LeadByTurns, IsLinked, IsPath, GoBack, LeadToExchanged, IsInOrder}
pub use Rattle.flat_machine.specs.declared.snapshot.Snapshot.{Snapshot}
pub use Rattle.explorer.specs.declared.packed.Packed.{Packed}
pub use Rattle.explorer.specs.inner.Packed.{state_bytes, state_of_bytes, state_of_packed, Packs, number_bytes, core_bytes, list_bytes}
pub use Rattle.explorer.specs.inner.Packed.{read_word, read_core, read_list, entry_bytes, read_entry, all_bytes, read_all, read_number}
unfoldable pub use Rattle.explorer.specs.inner.Packed.{read_registers}
pub use Rattle.explorer.specs.declared.link.Link.{Link}
pub use Rattle.explorer.specs.declared.link.Turn.TheVariants.{Made, Exchanged}
pub use Rattle.std.proofs.lemmas.Map.Keys.{IsDistinct-head, IsDistinct-tail}
pub use Rattle.tso_terms.specs.Actions.{action_of}
pub use Rattle.std.specs.Cmp.Lexicographic.{pointwise}
pub use Rattle.std.proofs.lemmas.Bool.{eqb-true, eq-eqb, both_ways}
pub use Rattle.std.specs.Prelude.{replicate, ◌⊎◌}
pub use Rattle.std.proofs.lemmas.List.{map-append, take_more, length-map}
pub use Rattle.tso_laws.specs.Choices.{state_after}
pub use Rattle.std.proofs.Math.ListN.{length-set}
pub use Rattle.std.proofs.lemmas.Bool.Decides.{nat_tests}
pub use Rattle.std.proofs.lemmas.List.Edits.{length-swap}
pub use Rattle.tso_laws.specs.inner.Laws.{RunsStopWhereTheyEnd}
pub use Rattle.explorer.specs.inner.Collected.{IsFinalOf, IsMadeOf, AreFinalsOf, MissesNoEnd}
pub use Rattle.std.specs.declared.vec.Vec.{Vec}
pub use Rattle.std.specs.declared.alloc.Global.{Global}
pub use Rattle.tso_laws.specs.Stubborn.{ChoiceSet, has_step, has_drain, has_choice, IsHeldBack, IsApartBy, IsApartStep, IsApartDrain}
pub use Rattle.tso_laws.specs.Stubborn.{IsStubborn, away, by_drain, by_step}
pub use Rattle.explorer.specs.inner.Picked.{set_of, HasEvery, ArePicksApart}
