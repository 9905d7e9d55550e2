-- The names that the proofs of this crate bring in from definitions and from crates below; each file takes its own from here.
pub use Rattle.std.proofs.Common.{◌≡◌, ◌∙◌, Bool, true, false, cond, List, [], ◌∷◌, Option, Some, None, is_some, Less, Equal, Contains}
pub use Rattle.std.proofs.Common.{refl, ap, subst, ℕ, ◌<◌, map, length, drop, slice_index_or, ◌+◌, Vec, Bor, All, sym, suc, ◌-◌, not, arith}
pub use Rattle.std.proofs.Common.{◌≤◌, if◌then◌else◌, ◌++◌, codes, append_assoc, ◌||◌, ◌⊎◌, inl, inr, zero, filter, ⊎_elim, ◌==◌, ◌&&◌}
pub use Rattle.std.proofs.Common.{slice_index, take, slice_get, slice_set, ◌≢◌, string_bytes, IfOk, get_or, set, vec_len, drop-cons}
pub use Rattle.std.specs.List.{AllByRecursion, flat_map, list_any}
unfoldable pub use Rattle.std.specs.List.Sorted.{IsStrictlySortedBy}
pub use Rattle.std.specs.Ordering.{is_eq, nat_cmp, ordering_reverse, match_ordering}
pub use Rattle.std.specs.Cmp.Lexicographic.{slice_cmp}
pub use Rattle.std.specs.BTreeMap.{insert_entry, is_at}
pub use Rattle.std.specs.Map.{lookup, keys_of, values_of}
pub use Rattle.std.proofs.lemmas.Cmp.{nat_list_cmp_total, eq_by_cmp_equiv, tied_itself}
pub use Rattle.std.proofs.lemmas.Map.Views.{Contains-keys_from_lookup, IsSome-lookup_from_Contains}
pub use Rattle.std.specs.declared.alloc.Global.{Global}
pub use Rattle.std.specs.declared.cmp.Ordering.{Ordering}
pub use Rattle.std.specs.declared.cmp.Ordering.TheVariants.{Greater}
pub use Rattle.std.proofs.lemmas.List.Elements.{All-from_recursion, recursion_from_All, All-head, All-tail, All-nil, All-cons}
pub use Rattle.std.proofs.lemmas.List.{get_or-map, length-map, drop_more, drop_all, at_drop_more, take_all, length-drop, append-nil}
pub use Rattle.tso_terms.specs.Litmus.{Litmus, IsTest, IsCondition}
pub use Rattle.tso_laws.specs.WellFormed.{IsWellFormed}
pub use Rattle.tso_laws.proofs.WellFormed.{well-formed}
pub use Rattle.explorer.specs.declared.final_states.FinalState.{FinalState}
pub use Rattle.tso_report.specs.Tally.{shown_value, claim_names_register, claim_names_location, is_looked_at, named_register}
pub use Rattle.tso_report.specs.Tally.{named_location, named_registers, named_locations, looked_at, values_in}
pub use Rattle.tso_report.specs.declared.named.Named.{Named}
pub use Rattle.tso_report.specs.Json.{count}
pub use Rattle.search_report.specs.Outcomes.{Outcome, outcome_of, shown_values, ArePrinted, held_in, failed_in, true_from, true_in}
pub use Rattle.search_report.specs.Outcomes.{printed_numbers, state_line, by_line, outcome_lines, outcomes_line, condition_lines}
pub use Rattle.search_report.specs.Outcomes.{outcomes_text, is_met_in}
pub use Rattle.search_report.specs.inner.ShownOutcomes.{IsOutcomeOf, is_kept, kept_of, with_outcome, kept_after, AreShown, outcomes_at, AllHave}
pub use Rattle.std.specs.Prelude.{count_by}
pub use Rattle.std.proofs.lemmas.List.Sums.{sum_by-cons}
pub use Rattle.tso_terms.specs.Condition.{Claim, NamesExist, truth_of, claim_of, condition_of, Condition, TruthClaim, RegClaim, LocClaim}
pub use Rattle.tso_terms.specs.Condition.{NotClaim, AndClaim, OrClaim}
pub use Rattle.serde_json.specs.Data.{array, Data, string, Members, no_members, member, put, object}
pub use Rattle.serde_json.specs.View.{view, items_of}
pub use Rattle.search_report.specs.OutcomesJson.{holds_in, state_value, states_value, key_of, value_members, with_holds, observation_value, outcomes_value}
pub use Rattle.search_report.specs.inner.WrittenOutcomes.{kept_lines, kept_values}
pub use Rattle.serde_json.specs.Written.{has_float, members_have_float, items_have_float, compact_text}
pub use Rattle.search_report.specs.Verdict.{outcomes_verdict_value, is_as_claimed, verdict_line}
pub use Rattle.std.proofs.lemmas.Option.{slice_get-get_or, slice_get_within, get_or_from_slice_get}
pub use Rattle.explorer.specs.FinalStates.{AreReached, Have}
pub use Rattle.search_report.specs.PrintedOutcomes.{outcomes_in, PrintsOutcomes}
pub use Rattle.tso_terms.specs.Registers.{index_of}
pub use Rattle.basic_laws.specs.Types.{Reg, Eax, Ebx, Ecx, Edx, Esi, Edi, Core, Choice, Entry}
pub use Rattle.tso_report.specs.ShownNames.{is_added, is_shown, names_shown, values_at}
pub use Rattle.tso_report.specs.declared.show.Show.{Show}
pub use Rattle.search_report.specs.Laws.{TruthIsShown, OutcomesAreAlike, OutcomesOfTheSameValuesAreAlike, OutcomesAreOneButForChoices}
pub use Rattle.search_report.specs.Hidden.{AreNotShown, IsHidden}
pub use Rattle.tso_laws.specs.Dead.{cleared, hidden_of, seen_from, seen, none_hidden}
pub use Rattle.tso_report.specs.declared.named.Named.TheVariants.{Register, Location}
pub use Rattle.search_report.specs.inner.Hidden.{IsNotHidden}
pub use Rattle.std.proofs.lemmas.Result.{on_ok_weaker, IfOk-weaker}
pub use Rattle.refutation_laws.specs.declared.model.Model.{Model}
pub use Rattle.refutations.specs.inner.Trees.{relations_of}
pub use Rattle.search_report.specs.Places.{Place}
pub use Rattle.search_report.specs.inner.Views.{place_of}
pub use Rattle.tso_terms.specs.ProgramOrder.{writes_to, is_read, is_before}
pub use Rattle.order_builder.specs.PrintedOrder.{printed_entry}
pub use Rattle.search_report.specs.declared.readings.Reading.{Reading}
pub use Rattle.search_report.specs.inner.ShownExecutions.{reading_value, coherence_members_by, last_or, ReadsIt, AreIn, AreReadings}
pub use Rattle.search_report.specs.inner.ShownExecutions.{IsShown, read_with_source, reading_line, coherence_by}
pub use Rattle.search_report.specs.ReasonJson.{with_coherence, edge_value, edges_value, place_members, asked_value, from_value}
pub use Rattle.search_report.specs.ReasonJson.{coherence_members, allowed_value}
pub use Rattle.search_report.specs.ReasonText.{source_text, model_name, asked_line, from_line, reads_of, coherence_lines, coherence_line, allowed_text}
pub use Rattle.tso_terms.specs.ProgramEntries.{made}
pub use Rattle.tso_terms.specs.FinalState.{final_words, final_registers}
pub use Rattle.relational_model.specs.Events.{IsIn}
pub use Rattle.relational_model.specs.CandidatesOfOrders.{IsCandidateOf, LeaveTheSame, last_in}
pub use Rattle.refutation_laws.specs.Models.{IsExecutionOf}
pub use Rattle.tso_report.specs.Report.{line, test_line}
unfoldable pub use Rattle.tso_report.specs.Report.{all_registers}
pub use Rattle.tso_report.specs.inner.Tally.{NameExists}
pub use Rattle.search_report.specs.PrintedReasons.{allowed_in, ShowsExecution}
pub use Rattle.std.proofs.lemmas.List.Folds.{flat_map-map}
pub use Rattle.std.proofs.lemmas.Simd.{map-map}
