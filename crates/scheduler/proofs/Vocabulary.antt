-- The names that the proofs of this crate bring in from definitions and from crates below; each file takes its own from here.
pub use Rattle.std.proofs.Common.{◌≡◌, ℕ, ◌+◌, ◌-◌, ◌<◌, ◌≤◌, Bool, true, false, cond, eqb, leb, List, [], ◌∷◌, ◌++◌, length, get_or, take}
pub use Rattle.std.proofs.Common.{Option, Some, None, Ok, Err, refl, sym, ap, subst, ◌∙◌, ◌⊎◌, inl, inr, take_all, arith, ◌^◌, IsTrue, All}
pub use Rattle.std.proofs.Common.{not, map, filter, rules, append_assoc, zero, suc, Result, ◌≢◌, drop, ◌*◌, min, ◌/◌, ◌%◌, ◌==◌, lit<}
pub use Rattle.std.proofs.Common.{string_bytes, ◌&&◌, if◌then◌else◌, replicate, sum, ◌||◌, drop-cons, max}
pub use Rattle.std.specs.Str.{bytes_eq}
pub use Rattle.std.specs.Prelude.{codes, nat_lt, MatchResult, IfOk, IfErr, IfSome, IsSome, is_some}
pub use Rattle.std.proofs.lemmas.Bool.{le-leb, lt-leb, leb-true, and_parts, eqb-true, cases_lt, false≢true, lt-ltb, ne_eqb}
pub use Rattle.std.proofs.lemmas.List.{take_more, append-nil, length-append, length-map, length-drop, length-take, take-append-drop}
pub use Rattle.std.proofs.lemmas.List.{drop-drop, take_at, get_or_at, drop_all, length_push, length-replicate, take-set-le, get_or-take}
pub use Rattle.std.proofs.lemmas.List.{get_or-set_same, get_or-set_other, get_or_default}
pub use Rattle.tso_terms.specs.FlatMachine.{chosen}
pub use Rattle.basic_laws.specs.Types.{Choice, Step, Drain, Entry, Kind, R, W, F, LR, LW}
pub use Rattle.scheduler.specs.declared.fault.ChoiceFault.TheVariants.{BadWord, NoSuchCore, TooMany, NoMemory}
pub use Rattle.scheduler.specs.declared.item.ChoiceKind.{ChoiceKind}
pub use Rattle.scheduler.specs.declared.item.ChoiceItem.TheVariants.{One, Seeded}
pub use Rattle.tso_terms.specs.Decimals.{decimal_value}
unfoldable pub use Rattle.tso_terms.specs.Decimals.{decimal_from}
unfoldable pub use Rattle.tso_terms.specs.inner.Decimals.{number_up_to}
pub use Rattle.scheduler.specs.Words.{words_of_text}
unfoldable pub use Rattle.scheduler.specs.Words.{is_numeral, is_space}
pub use Rattle.scheduler.specs.Grammar.{IsChoiceWord, step, drain, one, AreItems, none, more, SpellsChoices, IsItem, seeded, WordsSpell}
pub use Rattle.scheduler.specs.inner.Reading.{choice_by, one_at, made_of, words_in, seeded_from, one_from}
unfoldable pub use Rattle.scheduler.specs.inner.Reading.{choice_kind_of, one_of, seed_of, seeded_of, item_of}
pub use Rattle.std.proofs.lemmas.List.Elements.{All-nil, All-cons, All-append, All-get_or}
pub use Rattle.std.specs.Char.{is_ascii_digit}
pub use Rattle.std.specs.List.{slice_split, list_all, prefix_len, onto_first}
pub use Rattle.std.proofs.lemmas.Bool.Decides.{nat_tests}
pub use Rattle.std.proofs.lemmas.Fmt.{digits_decimal, digits_value-decimal, decimal_nonempty}
pub use Rattle.std.proofs.lemmas.List.Splits.{slice_split_none, slice_split_at, slice_split-cons_yes}
pub use Rattle.std.proofs.lemmas.Str.Parse.{IsNumeralModel, numerals_by_fold}
pub use Rattle.tso_terms.specs.Runs.{CoresExist}
pub use Rattle.scheduler.specs.Limits.{most_choices}
pub use Rattle.scheduler.specs.Printed.{printed_choice, printed_after, printed_choices}
pub use Rattle.std.proofs.lemmas.Slice.Eq.{bytes_eq-Decides}
pub use Rattle.rand_pcg.specs.Lcg.{Lcg}
pub use Rattle.rand_pcg.specs.Pcg.{pcg32}
pub use Rattle.scheduler.specs.declared.fault.ChoiceFault.{ChoiceFault}
pub use Rattle.scheduler.specs.declared.item.ChoiceItem.{ChoiceItem}
pub use Rattle.scheduler.specs.Seeds.{seeded_choices, generator, choice_of_word}
unfoldable pub use Rattle.scheduler.specs.Seeds.{drawn_words}
pub use Rattle.scheduler.specs.Refusals.{IsItemAtFault, bad_form, cut_seed, bad_seed, bad_count, no_core, too_many, AreRefused, IsDecidedAsChoices}
pub use Rattle.std.proofs.Math.Seq.{take-add, take-set-lt}
pub use Rattle.std.proofs.lemmas.List.Folds.{list_all_at, list_all_more}
pub use Rattle.std.specs.Global.{Vec}
pub use Rattle.std.proofs.Math.Nat.{div-lt_iff_lt-mul}
pub use Rattle.scheduler.specs.WordOfChoice.{SayAt}
pub use Rattle.scheduler.specs.inner.TooMany.{too_many_at}
pub use Rattle.std.proofs.lemmas.Result.{err_from_is_err_and}
pub use Rattle.std.proofs.lemmas.Option.{slice_get-get_or}
pub use Rattle.tso_terms.specs.Litmus.{Litmus, IsTest, IsProgram}
pub use Rattle.tso_terms.specs.Axioms.{IsWhole}
pub use Rattle.tso_terms.specs.Standing.{StandsIn}
pub use Rattle.tso_laws.specs.WellFormed.{IsWellFormed}
pub use Rattle.tso_laws.proofs.WellFormed.{well-formed}
pub use Rattle.tso_laws.specs.Entries.{FitsTest}
pub use Rattle.std.proofs.Math.ListN.{set, length-set}
pub use Rattle.std.proofs.lemmas.List.Sums.{sum_by-set, get_or-le-sum_by}
pub use Rattle.std.specs.Ordering.{ord_max, nat_cmp}
pub use Rattle.tso_terms.specs.ProgramOrder.{same_kind, is_store, is_load, is_before}
pub use Rattle.tso_laws.specs.Depth.{needed}
pub use Rattle.tso_laws.specs.inner.Depth.{asked}
pub use Rattle.scheduler.specs.inner.Passed.{HaveCounted, stores_below}
