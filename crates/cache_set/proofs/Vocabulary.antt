-- The names that the proofs of this crate bring in from definitions and from crates below; each file takes its own from here.
pub use Rattle.std.proofs.Common.{arith, ◌≡◌, ◌≢◌, ◌≤◌, ℕ, zero, suc, Bool, true, false, List, [], ◌∷◌, length, take, map, slice_get}
pub use Rattle.std.proofs.Common.{Option, Some, None, option_map, nat_eq, if◌then◌else◌, inl, inr, refl, sym, ap, ◌∙◌, ◌-◌, IfSome, ◌<◌}
pub use Rattle.std.proofs.Common.{IsSome, ◌⊎◌, subst, fold, ◌+◌, add-one, slice_set, ◌%◌, slice_index_or, replicate, drop, ◌++◌}
pub use Rattle.std.proofs.Common.{append_assoc, rules, nat_lt, ◌||◌, is_some, unwrap_or}
pub use Rattle.std.proofs.lemmas.Bool.Decides.{eqb_tells, nat_tests}
pub use Rattle.std.proofs.lemmas.Bool.{eq-eqb, cases_Bool, cases_eq}
pub use Rattle.std.specs.Map.{lookup, remove_entry, set_value, keys_of, lookup_entry}
pub use Rattle.protocol_tables.specs.declared.state.State.TheVariants.{I, S, E, O, M}
pub use Rattle.cache_set.specs.declared.Line.{Line}
pub use Rattle.cache_set.specs.inner.Contents.{NoLineTwice, NoneInvalid, changed_at, IsCacheSet, to_front, with_new, with_changed, without, after_fill}
pub use Rattle.std.proofs.lemmas.List.{length-map, take_all, get_or_default, drop_more, replicate_more, drop_all, append-nil, take-map}
pub use Rattle.std.proofs.lemmas.List.{map-set, get_or-set_same, get_or-set_other, ext_get_or, length-set, get_or_past}
pub use Rattle.std.specs.Option.{option_map_or, option_copied_mut, option_or, option_copied}
pub use Rattle.cache_set.specs.declared.Victim.{Victim}
pub use Rattle.cache_set.specs.Contents.{Contents, contents, copy_of, as_victim, victim_of}
pub use Rattle.cache_set.specs.declared.ways.Way.{Way}
pub use Rattle.cache_set.specs.inner.Ways.{is_invalid, is_empty, copies_in, way_of, first_empty, IsForNew, copy_left, NumbersBelow, AreWays}
pub use Rattle.cache_set.specs.inner.Ways.{has_line, first_full}
pub use Rattle.cache_set.specs.inner.Copy.{copy_with, with_state, with_word}
pub use Rattle.cache_set.specs.Copies.{Sets, in_set, set_at, tags_in, copy_in, copy_at, cache_of, tags_of}
pub use Rattle.std.proofs.Math.ListN.{get_or-map}
pub use Rattle.std.proofs.Math.Seq.{map-set_same, drop-cons, drop-length}
pub use Rattle.cache_set.specs.inner.Copies.{AtHome, emptied}
pub use Rattle.std.specs.List.{range_with_len, list_any}
pub use Rattle.std.proofs.lemmas.List.FromFn.{length-map-range_with_len, map-range_with_len_more}
pub use Rattle.std.proofs.lemmas.List.Edits.{map_over_more}
pub use Rattle.cache_set.specs.Lines.{lines_of_words, line_of_words, Words, line_in}
pub use Rattle.protocol_tables.specs.declared.state.State.{State}
pub use Rattle.std.proofs.lemmas.Option.{slice_get-map}
pub use Rattle.cache_set.specs.Tags.{tag_set, tag_of, used, filled, leaving, restated, removed, TagSet}
pub use Rattle.protocol_tables.specs.declared.state.Snoop.{Snoop}
pub use Rattle.cache_set.specs.CacheTags.{TagSets, tags_at, tag_in, at_line, sets_of, first_from, flusher_from, first_supplier, sends_in}
pub use Rattle.cache_set.specs.CacheTags.{supplies_in, states_by_core}
pub use Rattle.protocol_tables.specs.Laws.{is_dirty}
pub use Rattle.cache_set.specs.inner.Cleaning.{cleaned_at, cleaned_below, clean_tag_at, clean_tag_below, clean_copy, words_if_dirty}
pub use Rattle.cache_set.specs.inner.Tags.{clean, cleaned}
pub use Rattle.cache_set.specs.inner.Supplying.{supplied_of, Supplied}
pub use Rattle.tso_terms.specs.declared.instruction.Core.{Core}
pub use Rattle.tso_terms.specs.Limits.{most_cores}
pub use Rattle.cache_set.specs.Requests.{snoop_column}
