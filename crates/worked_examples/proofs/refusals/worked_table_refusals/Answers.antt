use Rattle.std.proofs.Common.{refl}
use Rattle.worked_examples.proofs.TextsRead.{computed_reading}
use Rattle.worked_examples.proofs.refusals.worked_table_refusals.Goals as goal

pub returns-clause-not_p0 : goal.returns-clause-not_p0
unfolding computed_reading
returns-clause-not_p0 c = refl

pub returns-clause-no_bar : goal.returns-clause-no_bar
unfolding computed_reading
returns-clause-no_bar c = refl

pub returns-clause-open_header_row : goal.returns-clause-open_header_row
unfolding computed_reading
returns-clause-open_header_row c = refl

pub returns-clause-ninth_core : goal.returns-clause-ninth_core
unfolding computed_reading
returns-clause-ninth_core c = refl

pub returns-clause-core_of_item : goal.returns-clause-core_of_item
unfolding computed_reading
returns-clause-core_of_item c = refl

pub returns-clause-core_of_item_before_row_ends : goal.returns-clause-core_of_item_before_row_ends
unfolding computed_reading
returns-clause-core_of_item_before_row_ends c = refl

pub returns-clause-bad_byte_in_header_row : goal.returns-clause-bad_byte_in_header_row
unfolding computed_reading
returns-clause-bad_byte_in_header_row c = refl

pub returns-clause-open_row : goal.returns-clause-open_row
unfolding computed_reading
returns-clause-open_row c = refl

pub returns-clause-bad_byte_in_row : goal.returns-clause-bad_byte_in_row
unfolding computed_reading
returns-clause-bad_byte_in_row c = refl

pub returns-clause-too_few_cells : goal.returns-clause-too_few_cells
unfolding computed_reading
returns-clause-too_few_cells c = refl

pub returns-clause-too_many_cells : goal.returns-clause-too_many_cells
unfolding computed_reading
returns-clause-too_many_cells c = refl

pub returns-clause-no_instruction : goal.returns-clause-no_instruction
unfolding computed_reading
returns-clause-no_instruction c = refl

pub returns-clause-no_such_register : goal.returns-clause-no_such_register
unfolding computed_reading
returns-clause-no_such_register c = refl

pub returns-clause-large_number : goal.returns-clause-large_number
unfolding computed_reading
returns-clause-large_number c = refl

pub returns-clause-large_number_of_seventeenth : goal.returns-clause-large_number_of_seventeenth
unfolding computed_reading
returns-clause-large_number_of_seventeenth c = refl

pub returns-clause-seventeenth_in_row : goal.returns-clause-seventeenth_in_row
unfolding computed_reading
returns-clause-seventeenth_in_row c = refl

pub returns-clause-thirty_third : goal.returns-clause-thirty_third
unfolding computed_reading
returns-clause-thirty_third c = refl
