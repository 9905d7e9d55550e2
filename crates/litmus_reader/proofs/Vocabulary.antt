-- The names that the proofs of this crate bring in from definitions and from crates below; each file takes its own from here.
pub use Rattle.std.proofs.Common.{◌≡◌, ℕ, ◌+◌, Bool, true, false, cond, ltb, not, ◌||◌, List, [], ◌∷◌, length, map, Some, None, refl, sym}
pub use Rattle.std.proofs.Common.{ap, ◌⊎◌, inl, inr, arith, ◌-◌, ◌≤◌, eqb, take, drop, ◌∙◌, zero, suc, ◌<◌, Result, Ok, Err, ◌==◌, ◌&&◌}
pub use Rattle.std.proofs.Common.{Bor, ◌++◌, get_or, add-one, drop-cons, Option, IfSome, subst, All, append_assoc, ◌^◌, IsTrue, replicate}
pub use Rattle.std.proofs.Common.{filter, eqb-true, eq-eqb, true≢false, nat_lt, ◌≢◌, IfErr, MatchResult, nat_eq, string_bytes, ◌*◌}
pub use Rattle.std.specs.Prelude.{position, codes, count_by, slice_index_or}
pub use Rattle.std.specs.List.{position_or_len, prefix_len, list_any, slice_split, onto_first, before_first, after_first, range_with_len}
pub use Rattle.std.specs.List.{flat_map, list_all, starts_with}
pub use Rattle.std.proofs.lemmas.Bool.{ltb-false, ltb-true, and_parts, or_parts, not-true, and_from, lt-ltb, le-ltb, ne_eqb}
pub use Rattle.std.proofs.lemmas.List.Sums.{prefix_len-le-length, sum_by-append, AllPass-from_list_all}
pub use Rattle.std.proofs.lemmas.List.{take_all, length-drop, nil_from_length, map_push, length-map, take-map, drop-map, get_or-map}
pub use Rattle.std.proofs.lemmas.List.{map-append, append-nil, length-append, length-set, ext_get_or, get_or-set_same, get_or-set_other}
pub use Rattle.std.proofs.lemmas.List.{get_or_read}
pub use Rattle.litmus_reader.specs.GrammarText.{name_in, ClosesBrackets, here, further, is_quoted, IsInformation, quotation, key_line}
pub use Rattle.litmus_reader.specs.GrammarText.{AreInformationLines, none, IsHeaderLine}
unfoldable pub use Rattle.litmus_reader.specs.GrammarText.{first_line, continues_key}
pub use Rattle.litmus_tokens.specs.Gap.{opens_comment, closes_comment}
unfoldable pub use Rattle.litmus_tokens.specs.Gap.{gap_end, is_space}
pub use Rattle.litmus_tokens.specs.declared.fault.Fault.{Fault}
pub use Rattle.litmus_reader.specs.Header.{from_gap, sized}
unfoldable pub use Rattle.litmus_reader.specs.Header.{header_at}
unfoldable pub use Rattle.litmus_reader.specs.Information.{information_end, begins_initial, braces_within, braces_at, quotation_end, key_value, key_line_end}
pub use Rattle.litmus_tokens.specs.declared.instructions.Instructions.{Instructions}
pub use Rattle.litmus_tokens.specs.declared.token.Stop.{Stop}
pub use Rattle.litmus_tokens.specs.declared.token.Symbol.{Symbol}
pub use Rattle.litmus_tokens.specs.declared.token.Symbol.TheVariants.{CloseCurly, Bar, Semicolon, Colon, OpenSquare, CloseSquare, Comma}
pub use Rattle.litmus_tokens.specs.declared.token.Symbol.TheVariants.{Dollar, OpenCurly, OpenRound, CloseRound, And, Or, Tilde, Equals}
pub use Rattle.litmus_tokens.specs.declared.token.Symbol.TheVariants.{Minus}
pub use Rattle.litmus_tokens.specs.Pieces.{Piece, onto}
unfoldable pub use Rattle.litmus_tokens.specs.Pieces.{pieces_of, piece_at, pieces_within}
pub use Rattle.litmus_tokens.specs.Front.{is_symbol_term, name_then, number_then, unsigned_then}
unfoldable pub use Rattle.litmus_tokens.specs.Front.{symbol_at, name_at, number_at, unsigned_at, numeral_at, is_symbol}
pub use Rattle.litmus_reader.specs.declared.fault.Part.{Part}
pub use Rattle.litmus_tokens.specs.declared.fault.ReadError.{ReadError}
pub use Rattle.litmus_tokens.specs.Faults.{Fails, Gives, ◌>>=◌, or_fault, there}
unfoldable pub use Rattle.litmus_tokens.specs.Names.{location_at, register_at}
pub use Rattle.litmus_reader.specs.Settings.{core_of}
unfoldable pub use Rattle.litmus_reader.specs.Settings.{plain_setting, setting_at, value_at, register_setting, square_setting}
pub use Rattle.litmus_reader.specs.Initial.{Initial, Given, gives, registers_of}
unfoldable pub use Rattle.litmus_reader.specs.Initial.{item_end, item_in, items_within, initial_at, judged, registers_with}
pub use Rattle.litmus_reader.specs.Places.{unfit, remaining_of, in_initial, at_stop, part_of, from_place}
pub use Rattle.std.specs.Str.{bytes_eq, IsUtf8}
pub use Rattle.tso_terms.specs.Registers.{index_of, IsWord, same_letters, AreRegisters, register_named}
pub use Rattle.basic_laws.specs.Types.{Reg, Instr, Loc, StoreImm, StoreReg, Load, SetImm, SetReg, Fence, Xchg, Xadd, Quantifier, Exists}
pub use Rattle.basic_laws.specs.Types.{NotExists, Forall, Eax, Ebx, Ecx, Edx, Esi, Edi}
pub use Rattle.litmus_tokens.specs.declared.fault.Why.TheVariants.{TwiceInit, TooLarge, Unclosed, NoSuchCore, WrongCells, BadHeaderRow}
pub use Rattle.litmus_tokens.specs.declared.fault.Why.TheVariants.{BadCondition, BadInstruction, BadNumber, NoMemory}
pub use Rattle.litmus_tokens.specs.Numbers.{word_at, hexadecimal_value, negative}
pub use Rattle.litmus_reader.specs.inner.Initial.{given, initial, given_of, named_by_key, named_by_word, KnowsGiven, with_register, items_at, words_of}
pub use Rattle.litmus_reader.specs.inner.Sections.{before_opening, tokens_in, stop_of, section, onto_section, is_one_of, item_ends, row_ends, IsSection, opened}
pub use Rattle.litmus_reader.specs.Sections.{Section}
unfoldable pub use Rattle.litmus_reader.specs.Sections.{section_of}
pub use Rattle.litmus_tokens.specs.Places.{fault}
pub use Rattle.litmus_reader.specs.Written.{of_register, Setting, of_location, Phrase, truth, atom, negation, both, either, WrittenCondition, Written}
pub use Rattle.tso_terms.specs.Limits.{most_cores, most_instructions, most_locations, most_open, longest_name}
pub use Rattle.litmus_reader.specs.Faults.{or_unfit}
unfoldable pub use Rattle.litmus_reader.specs.Columns.{columns}
pub use Rattle.std.proofs.lemmas.List.Splits.{slice_split_first, length-slice_split, slice_split-cons_yes, slice_split-cons_no}
pub use Rattle.litmus_tokens.specs.declared.token.Token.{Token}
pub use Rattle.litmus_tokens.specs.inner.Pieces.{piece_of, pieces}
pub use Rattle.litmus_cells.specs.declared.cell.CoreInstr.{CoreInstr}
pub use Rattle.litmus_cells.specs.Cells.{count_of, of_core, at_location}
unfoldable pub use Rattle.litmus_cells.specs.Cells.{cell_in, instr_of}
pub use Rattle.litmus_reader.specs.Cells.{cells_of}
unfoldable pub use Rattle.litmus_reader.specs.Cells.{cells_in}
pub use Rattle.litmus_reader.specs.Rows.{Rows, Table}
pub use Rattle.litmus_reader.specs.inner.Rows.{rows, rows_at, table}
unfoldable pub use Rattle.litmus_reader.specs.Rows.{row_at, row_in, rows_within, table_at}
pub use Rattle.litmus_reader.specs.GrammarTable.{location_in, instr_with, ValueFits, in_rows, column, AreWithin, in_field, AreRows, ends_rows_term}
unfoldable pub use Rattle.litmus_reader.specs.GrammarTable.{ends_rows}
pub use Rattle.litmus_reader.specs.Observed.{square_by}
unfoldable pub use Rattle.litmus_reader.specs.Observed.{square_within, square_end, ending_tokens, brackets_end}
pub use Rattle.tso_terms.specs.Condition.{Claim, TruthClaim, RegClaim, LocClaim, NotClaim, AndClaim, OrClaim, Condition, NamesExist}
pub use Rattle.tso_terms.specs.Condition.{atoms_in, negations_in, claim_of}
pub use Rattle.litmus_reader.specs.Conditions.{Claimed, Proposition, one_more, disjunction, bracketed, Conditioned}
pub use Rattle.litmus_reader.specs.inner.Conditions.{claimed, conditioned, conjunction, proposition_at}
unfoldable pub use Rattle.litmus_reader.specs.Conditions.{chain, chain_of, opens_unit, atom_at, unit_by, unit_at, claim_in, truth_at}
unfoldable pub use Rattle.litmus_reader.specs.Conditions.{setting_atom, negation_at, quantified, condition_at}
pub use Rattle.std.proofs.Math.Seq.{take-suc, drop-append_seam}
pub use Rattle.litmus_tokens.specs.Locations.{texts}
unfoldable pub use Rattle.litmus_tokens.specs.Locations.{located}
pub use Rattle.litmus_reader.specs.Reading.{program_of, test_of, refusal}
unfoldable pub use Rattle.litmus_reader.specs.Reading.{end_at, tail_at, body_of, reading_of}
pub use Rattle.tso_terms.specs.Decimals.{decimal_value}
pub use Rattle.tso_terms.specs.Names.{is_location_name, is_among, is_name, is_register_word, is_test_name, is_printable, begins_name}
pub use Rattle.tso_terms.specs.Names.{continues_name, last_byte, is_keyword}
pub use Rattle.litmus_tokens.specs.Arguments.{ArgumentTerm, in_memory, in_register, constant, as_constant, memory_at, if_last, if_alone}
unfoldable pub use Rattle.litmus_tokens.specs.Arguments.{argument_at, one_argument, two_arguments}
pub use Rattle.litmus_tokens.specs.Forms.{mov_of, xchg_of, xadd_of, no_more, if_all, swap_of, cmpxchg_of, operator_named, step_named}
pub use Rattle.litmus_tokens.specs.Forms.{locked_of, combine_of, locked_step, combine_step, locked_neg, neg_of, locked_more}
pub use Rattle.litmus_tokens.specs.Forms.{is_no_operation, more_by, exchange_of, locked_by, by_mnemonic}
unfoldable pub use Rattle.litmus_tokens.specs.Forms.{locked_at, spelled_in}
pub use Rattle.litmus_tokens.specs.Shapes.{Shape, store_imm, store_reg, load, set_imm, set_reg, fence, xchg, xadd}
pub use Rattle.std.proofs.lemmas.List.Elements.{All-nil, All-head, All-tail, All-weaker, All-map, All-cons}
pub use Rattle.tso_terms.specs.Litmus.{are_distinct, KnownLocation, ConstantIsWord, IsProgram, Litmus, IsTest}
pub use Rattle.litmus_tokens.specs.GrammarNames.{number_of, location, with_name}
unfoldable pub use Rattle.litmus_tokens.specs.GrammarNames.{numbered}
pub use Rattle.tso_terms.specs.Thread.{with_value}
pub use Rattle.litmus_reader.specs.Keywords.{is_word}
unfoldable pub use Rattle.litmus_reader.specs.Keywords.{word_after}
pub use Rattle.std.proofs.lemmas.Bool.Decides.{nat_tests}
pub use Rattle.litmus_tokens.specs.Terms.{Term, number, hexadecimal, name, symbol, is_hexadecimal, is_minus, numeral_term, spelling_of}
pub use Rattle.litmus_tokens.specs.Terms.{symbol_among, run_of, symbol_or_bad}
unfoldable pub use Rattle.litmus_tokens.specs.Terms.{symbols, symbol_of, term_at}
pub use Rattle.litmus_reader.specs.Grammar.{terms, Passes}
pub use Rattle.litmus_reader.specs.GrammarConditions.{IsCondition, IsWithin, locations_in, atoms_of, claim_by, AreJoined, one}
pub use Rattle.litmus_reader.specs.GrammarConditions.{IsConjunction, IsProposition, settings_in, PhraseFits, IsAtom, says_true, says_false}
pub use Rattle.litmus_reader.specs.GrammarConditions.{says_setting, in_brackets, is_negation, IsUnit, IsQuantifier, says_exists}
pub use Rattle.litmus_reader.specs.GrammarConditions.{says_forall, says_not_exists, condition}
pub use Rattle.litmus_reader.specs.GrammarInitial.{has_cores, names_in, first_words, first_registers, is_allowed, given_value, same_place}
pub use Rattle.litmus_reader.specs.GrammarInitial.{each_once, Fits, IsInitialItem, AreInitialItems, last, more, IsInitialState, in_braces}
pub use Rattle.litmus_reader.specs.GrammarInitial.{has_core, value_in, names_register, first_registers_of}
pub use Rattle.std.proofs.lemmas.Slice.Eq.{bytes_eq-Decides}
pub use Rattle.std.specs.Char.{to_ascii_lowercase, is_ascii_alphabetic, is_ascii_digit}
pub use Rattle.litmus_reader.specs.GrammarNumerals.{IsUnsigned, IsNumeral}
pub use Rattle.litmus_reader.specs.GrammarCells.{IsOperand, IsCall, IsMove, IsExchange, IsCell, IsAddition, IsLocked, IsCallOfOne}
pub use Rattle.litmus_reader.specs.GrammarCells.{IsOperator, IsStep, DoesNothing, IsLockedMore, IsCellMore}
pub use Rattle.litmus_reader.specs.GrammarItems.{IsSetting, sets_register, sets_location, sets_in_squares}
pub use Rattle.litmus_reader.specs.GrammarColumns.{IsHeaderRow, core_name}
pub use Rattle.std.proofs.lemmas.List.Folds.{list_all-append, list_any-append}
pub use Rattle.litmus_reader.specs.GrammarRows.{IsField, empty, full, AreFields, IsRow, row}
pub use Rattle.std.proofs.lemmas.List.FromFn.{length-map-range_with_len, get_or-map-range_with_len}
pub use Rattle.litmus_tokens.specs.declared.token.Stop.TheVariants.{End}
pub use Rattle.litmus_reader.specs.GrammarEnding.{MayAsk, nothing, a_condition, IsEnding, at_once, after_locations, names_asked, condition_of, IsAskedWithin}
pub use Rattle.litmus_tokens.specs.declared.fault.Why.{Why}
pub use Rattle.std.proofs.lemmas.Result.{err_from_is_err_and}
pub use Rattle.litmus_reader.specs.inner.Cells.{cells_after}
