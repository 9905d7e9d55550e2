-- The names that the proofs of this crate bring in from definitions and from crates below; each file takes its own from here.
pub use Rattle.std.proofs.Common.{◌≡◌, ℕ, min, ◌<◌, ◌^◌, Bool, true, not, eqb, List, [], ◌∷◌, ◌++◌, get_or, All, inl, inr, refl, ap, ◌∙◌}
pub use Rattle.std.proofs.Common.{arith, rules, ◌+◌, ◌-◌, ◌*◌, ◌≤◌, zero, suc, false, nat_le, ◌&&◌, length, map, slice_index}
pub use Rattle.std.proofs.Common.{slice_index_or, Option, Some, None, length-append, codes, append-nil, sym, ◌||◌, filter, subst}
pub use Rattle.std.proofs.Common.{append_assoc, cond, sum, Vec, unwrap_or, option_map, ◌≢◌, drop, string_bytes, is_some, IfOk}
pub use Rattle.std.specs.Fmt.{decimal}
pub use Rattle.std.specs.List.{list_all, AllByRecursion, flat_map}
pub use Rattle.std.proofs.lemmas.Bool.{and_parts, and_from, or_parts}
pub use Rattle.std.proofs.lemmas.Bool.Decides.{nat_tests}
pub use Rattle.std.proofs.lemmas.Fmt.{digits_decimal, length-decimal-le}
pub use Rattle.std.proofs.lemmas.List.Elements.{All-cons, All-nil, All-head, All-tail, filter-append, All-filter, All-append}
pub use Rattle.tso_terms.specs.Litmus.{Litmus, IsTest}
pub use Rattle.basic_laws.specs.Types.{Bus, Atomic, Split, Entry, Reg}
pub use Rattle.tso_terms.specs.Names.{is_printable, is_test_name, begins_name, continues_name, is_name, is_register_word, is_location_name}
pub use Rattle.order_builder.specs.PrintedOrder.{printed_lines, printed_order, letters_of, printed_access, printed_entry, printed_end}
pub use Rattle.order_builder.specs.Spelling.{IsLineBeforeOrder, IsOrderFor, SpellsOrder, HasAccess, IsEntryFor}
pub use Rattle.tso_report.specs.Shown.{ShownRun, shown_run}
pub use Rattle.protocol_tables.specs.Names.{protocol_name}
pub use Rattle.protocol_tables.specs.declared.kind.ProtocolKind.{ProtocolKind}
pub use Rattle.protocol_tables.specs.declared.kind.ProtocolKind.TheVariants.{Msi}
pub use Rattle.cache_set.specs.Geometry.{Geometry, IsLineSize, IsShapeWithinLimits}
pub use Rattle.multiprocessor.specs.Configuration.{Configuration, IsConfigurationWithinLimits}
pub use Rattle.tso_report.specs.Report.{report, line, test_line, shape_text, bus_text, register_lines, memory_line, condition_line}
pub use Rattle.tso_report.specs.Report.{choices_line, cache_lines, machine_line, printed_register, printed_registers, register_line}
pub use Rattle.tso_report.specs.Report.{printed_words, printed_quantifier, printed_truth, printed_verdict, traffic_text, cache_line}
unfoldable pub use Rattle.tso_report.specs.Report.{all_registers}
pub use Rattle.tso_terms.specs.Condition.{Condition}
pub use Rattle.multiprocessor.specs.declared.counts.Counts.{Counts}
pub use Rattle.tso_report.specs.declared.named.Named.{Named}
pub use Rattle.tso_report.specs.Tally.{printed_values, is_looked_at, named_register, named_location, named_registers}
pub use Rattle.tso_report.specs.Tally.{named_locations, looked_at, count_of_runs, with_values, sweep_line, counted_state_lines, observation}
pub use Rattle.tso_report.specs.Tally.{tally_text, Ascend, shown_value}
pub use Rattle.std.specs.Ordering.{nat_cmp, match_ordering, is_eq, ordering_reverse}
pub use Rattle.std.specs.Cmp.Lexicographic.{slice_cmp}
pub use Rattle.std.specs.declared.cmp.Ordering.{Ordering}
pub use Rattle.std.specs.declared.cmp.Ordering.TheVariants.{Less, Equal, Greater}
pub use Rattle.serde_json.specs.Data.{string, Members, no_members, member, put, object, Data, array}
pub use Rattle.serde_json.specs.View.{items_of, view, members_view}
pub use Rattle.serde_json.specs.Written.{compact_text, has_float, items_have_float, members_have_float}
pub use Rattle.tso_report.specs.Json.{run_members, unfinished_members, count, counts_value, cache_value, choices_value, condition_value}
pub use Rattle.tso_report.specs.Json.{with_bus, configuration_members, machine_value, memory_members, memory_value, order_value}
pub use Rattle.tso_report.specs.Json.{registers_value, cores_value, run_value}
pub use Rattle.tso_report.specs.inner.Tally.{NameExists, Tallied}
pub use Rattle.std.specs.BTreeMap.{insert_entry, is_at}
pub use Rattle.std.specs.Map.{lookup, keys_of, values_of}
unfoldable pub use Rattle.std.specs.List.Sorted.{IsStrictlySortedBy}
pub use Rattle.std.proofs.lemmas.Cmp.{nat_list_cmp_total, on_total, tied_itself}
pub use Rattle.tso_report.specs.inner.Counted.{counted_states, counts_in, IsKept}
pub use Rattle.std.proofs.lemmas.List.{drop_all, drop_more}
pub use Rattle.serde_json.proofs.Views.{view-Array}
pub use Rattle.tso_report.specs.inner.Pieces.{line_piece}
pub use Rattle.tso_report.specs.inner.Members.{with_data}
pub use Rattle.std.proofs.lemmas.Result.{on_ok_weaker}
