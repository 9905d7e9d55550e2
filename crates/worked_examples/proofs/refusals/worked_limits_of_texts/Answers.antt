use Rattle.std.proofs.Common.{refl, length}
use Rattle.std.proofs.lemmas.Bool.{le-ltb}
use Rattle.worked_examples.proofs.TextsRead.{computed_reading, long-is_told}
use Rattle.worked_examples.proofs.refusals.worked_limits_of_texts.Goals as goal

pub returns-clause-longest_test_name : goal.returns-clause-longest_test_name
unfolding computed_reading
returns-clause-longest_test_name c = refl

pub returns-clause-longest_name : goal.returns-clause-longest_name
unfolding computed_reading
returns-clause-longest_name c = refl

pub returns-clause-sixteen_locations : goal.returns-clause-sixteen_locations
unfolding computed_reading
returns-clause-sixteen_locations c = refl

pub returns-clause-eight_cores : goal.returns-clause-eight_cores
unfolding computed_reading
returns-clause-eight_cores c = refl

pub returns-clause-thirty_two_instructions : goal.returns-clause-thirty_two_instructions
unfolding computed_reading
returns-clause-thirty_two_instructions c = refl

pub returns-clause-greatest_word_of_item : goal.returns-clause-greatest_word_of_item
unfolding computed_reading
returns-clause-greatest_word_of_item c = refl

pub returns-clause-greatest_word_of_cell : goal.returns-clause-greatest_word_of_cell
unfolding computed_reading
returns-clause-greatest_word_of_cell c = refl

pub returns-clause-greatest_word_of_atom : goal.returns-clause-greatest_word_of_atom
unfolding computed_reading
returns-clause-greatest_word_of_atom c = refl

pub returns-clause-sixty_four_open : goal.returns-clause-sixty_four_open
unfolding computed_reading
returns-clause-sixty_four_open c = refl

pub returns-clause-sixty_fifth_bracket : goal.returns-clause-sixty_fifth_bracket
unfolding computed_reading
returns-clause-sixty_fifth_bracket c = refl

pub returns-clause-sixty_fifth_negation : goal.returns-clause-sixty_fifth_negation
unfolding computed_reading
returns-clause-sixty_fifth_negation c = refl

pub returns-clause-atoms_256 : goal.returns-clause-atoms_256
unfolding computed_reading
returns-clause-atoms_256 c = refl

pub returns-clause-atom_257 : goal.returns-clause-atom_257
unfolding computed_reading
returns-clause-atom_257 c = refl

pub returns-clause-longest_text_is_read_on : goal.returns-clause-longest_text_is_read_on
returns-clause-longest_text_is_read_on c = λ text small. rw (le-ltb 65536 (length text) small) refl

pub returns-clause-longer_text : goal.returns-clause-longer_text
returns-clause-longer_text c = long-is_told
