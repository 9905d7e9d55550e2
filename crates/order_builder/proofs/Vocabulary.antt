-- The names that the proofs of this crate bring in from definitions and from crates below; each file takes its own from here.
pub use Rattle.std.proofs.Common.{◌≡◌, ◌≢◌, ℕ, ◌^◌, ◌<◌, List, length, Some, None, Result, Ok, Err, All, ◌⊎◌, inl, inr, refl, subst, suc}
pub use Rattle.std.proofs.Common.{◌+◌, false, eqb, [], ◌∷◌, ◌++◌, map, ap, ◌∙◌, arith, zero, Bool, true, not, ◌||◌, get_or, sym, ◌≤◌, leb}
pub use Rattle.std.proofs.Common.{rules, Option, ◌-◌, ◌/◌, ◌%◌, ltb, take, cond, drop, slice_index_or, string_bytes}
pub use Rattle.std.specs.Prelude.{IfOk, IfErr, codes}
pub use Rattle.tso_terms.specs.Litmus.{Litmus, IsTest, are_distinct}
pub use Rattle.basic_laws.specs.Types.{Entry, Execution, Kind, R, W, F, LR, LW}
pub use Rattle.order_builder.specs.Spelling.{HasAccess, IsEntryFor, IsOrderFor, SpellsOrder, HasFault, BeginsOrder, IsNoEntry, IsNoEnd}
pub use Rattle.order_builder.specs.Spelling.{HasNoCount, IsNotOrderLine, IsLineBeforeOrder}
pub use Rattle.order_builder.specs.PrintedOrder.{IsLocationFor, HasLocation, printed_entry, printed_end, order_lines, letters_of}
pub use Rattle.order_builder.specs.PrintedOrder.{printed_access, printed_lines, printed_order, HasWord}
pub use Rattle.std.proofs.lemmas.List.Elements.{All-weaker, All-cons, All-nil, All-head, All-tail, All-get_or, All-append, All-from_get_or}
pub use Rattle.order_builder.specs.Reading.{entries_of_order, Gives}
pub use Rattle.order_builder.specs.inner.Reading.{onto, ◌>>=◌, entry_at, numeral, halves_at, IsFirstOfLines, IsOtherFirst, IsOrderLineAt}
unfoldable pub use Rattle.order_builder.specs.inner.Reading.{order_of, order_start, entries_in, entry_in, end_in, location_named}
unfoldable pub use Rattle.order_builder.specs.inner.Reading.{split_once, starts_line, without_prefix, kind_of, place_in, access_in, action_in}
pub use Rattle.order_builder.specs.Lines.{lines_in, is_line_feed}
unfoldable pub use Rattle.order_builder.specs.Lines.{lines_of}
pub use Rattle.order_builder.specs.declared.fault.OrderFault.{OrderFault}
pub use Rattle.order_builder.specs.declared.fault.OrderFault.TheVariants.{NoOrder, BadLine, BadCount, NoMemory}
pub use Rattle.std.proofs.lemmas.Bool.{eqb-false, and_parts, and_from, eqb-true, le-leb, leb-true, lt-ltb, le-ltb, ltb-false}
pub use Rattle.std.proofs.lemmas.Bool.Decides.{nat_tests}
pub use Rattle.tso_terms.specs.Decimals.{decimal_value}
unfoldable pub use Rattle.tso_terms.specs.Decimals.{decimal_from}
pub use Rattle.std.specs.Char.{is_ascii_digit}
pub use Rattle.std.specs.Fmt.{decimal, digits_onto, digit_glyph}
unfoldable pub use Rattle.std.specs.Fmt.{digits}
pub use Rattle.std.specs.List.{count_by, list_all, list_any, position, position_or_len, slice_get, slice_split}
pub use Rattle.std.specs.Str.{bytes_eq}
pub use Rattle.std.proofs.lemmas.List.Quantifiers.{position-Some}
pub use Rattle.tso_terms.specs.Names.{is_name, is_location_name, begins_name, continues_name, is_among}
pub use Rattle.std.proofs.lemmas.Fmt.{digits_decimal, digits_value-decimal, decimal_nonempty, first_decimal, decimal_digit, decimal-digits_value}
pub use Rattle.std.proofs.lemmas.Str.Parse.{IsNumeralModel, numerals_by_fold}
unfoldable pub use Rattle.tso_terms.specs.inner.Decimals.{number_up_to}
pub use Rattle.order_builder.specs.Numbers.{is_number}
unfoldable pub use Rattle.order_builder.specs.inner.Numbers.{number_within}
pub use Rattle.std.proofs.lemmas.List.{append_assoc, append-nil, length-append, length-map, take_all, take_more, take-append-drop, take_at}
pub use Rattle.std.proofs.lemmas.List.{drop_at, length-drop, length-take, get_or-take, get_or_at, get_or_append_left, length_push}
pub use Rattle.std.proofs.lemmas.List.{drop_more, nil_from_length, drop-drop, get_or-drop, drop_all}
pub use Rattle.std.specs.Str.Lines.{strip_carriage_return}
pub use Rattle.std.proofs.lemmas.List.Folds.{list_all-append}
pub use Rattle.std.specs.Option.{option_map}
pub use Rattle.std.proofs.lemmas.List.Sums.{position_or_len_is, fails_before_first, count_by-le-length, count_by_more_yes, count_by_more_no}
pub use Rattle.std.proofs.lemmas.List.Splits.{slice_split_none, slice_split_at, length-slice_split}
pub use Rattle.std.proofs.lemmas.Slice.Eq.{bytes_eq-Decides}
