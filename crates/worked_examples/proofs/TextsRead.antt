-- Readings of texts by computation: what unfolds this unfolds all that a reading computes with.
use Rattle.std.proofs.Common.{◌≡◌, ◌<◌, ◌-◌, ℕ, List, Result, length, refl, arith}
use Rattle.std.proofs.lemmas.Bool.{lt-ltb}
use Rattle.litmus_tokens.specs.declared.fault.Why.TheVariants.{TooLarge}
use Rattle.worked_examples.specs.RefusedTexts.{told, refused}
use Rattle.tso_terms.specs.Litmus.{Litmus}
use Rattle.litmus_tokens.specs.declared.fault.Fault.{Fault}
use Rattle.litmus_tokens.specs.declared.instructions.Instructions.{Instructions}
use Rattle.litmus_tokens.specs.Front.{is_symbol, symbol_at, name_at, number_at, unsigned_at, numeral_at}
use Rattle.litmus_tokens.specs.Gap.{is_space, gap_end}
use Rattle.litmus_tokens.specs.Pieces.{piece_at, pieces_within, pieces_of}
use Rattle.litmus_tokens.specs.Terms.{symbols, symbol_of, term_at}
use Rattle.litmus_tokens.specs.Arguments.{argument_at, one_argument, two_arguments}
use Rattle.litmus_cells.specs.Cells.{instr_of, cell_in}
use Rattle.litmus_tokens.specs.Forms.{locked_at, spelled_in}
use Rattle.litmus_tokens.specs.Locations.{located}
use Rattle.litmus_tokens.specs.Names.{location_at, register_at}
use Rattle.litmus_reader.specs.Cells.{cells_in}
use Rattle.litmus_reader.specs.Columns.{columns}
use Rattle.litmus_reader.specs.Conditions.{claim_in, truth_at, setting_atom, atom_at, chain, chain_of, negation_at, opens_unit, unit_by}
use Rattle.litmus_reader.specs.Conditions.{unit_at, quantified, condition_at}
use Rattle.litmus_reader.specs.GrammarTable.{ends_rows}
use Rattle.litmus_reader.specs.GrammarText.{first_line, trimmed, name_in, continues_key}
use Rattle.litmus_reader.specs.Header.{judged, header_at}
use Rattle.litmus_reader.specs.Information.{quotation_end, information_end, begins_initial, braces_within, braces_at}
use Rattle.litmus_reader.specs.Initial.{judged as judged_setting, item_end, item_in, items_within, initial_at, registers_with}
use Rattle.litmus_reader.specs.Keywords.{word_after}
use Rattle.litmus_reader.specs.Observed.{square_within, square_end, brackets_end, ending_tokens}
use Rattle.litmus_reader.specs.Reading.{end_at, tail_at, body_of, reading_of}
use Rattle.litmus_reader.specs.Rows.{row_at, row_in, rows_within, table_at}
use Rattle.litmus_reader.specs.Sections.{section_of}
use Rattle.litmus_reader.specs.Settings.{value_at, register_setting, square_setting, plain_setting, setting_at}
use Rattle.tso_terms.specs.Decimals.{decimal_from}

unfoldable pub computed_reading : Instructions → List ℕ → Result Litmus Fault
unfolding is_symbol symbol_at name_at number_at unsigned_at numeral_at is_space gap_end piece_at pieces_within pieces_of symbols
    symbol_of term_at argument_at one_argument two_arguments instr_of cell_in locked_at spelled_in located location_at register_at cells_in
    columns claim_in truth_at setting_atom atom_at chain chain_of negation_at opens_unit unit_by
    unit_at quantified condition_at ends_rows first_line trimmed name_in continues_key judged header_at
    quotation_end information_end begins_initial braces_within braces_at judged_setting item_end item_in
    items_within initial_at registers_with word_after square_within square_end brackets_end ending_tokens
    end_at tail_at body_of reading_of row_at row_in rows_within table_at section_of value_at register_setting
    square_setting plain_setting setting_at decimal_from
computed_reading set text = reading_of set text

-- a text that is too long is refused at its first byte, whatever is in it
pub long-is_told : (text : List ℕ) → 65536 < length text → told text ≡ refused 1 TooLarge text
unfolding reading_of
long-is_told text long =
    let none : length text - length text ≡ 0 = omega arith in
    rw (lt-ltb 65536 (length text) long, none) refl
