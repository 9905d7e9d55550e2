use Rattle.std.proofs.Common.{refl}
use Rattle.worked_examples.proofs.TextsRead.{computed_reading}
use Rattle.worked_examples.proofs.refusals.worked_ending_refusals.Goals as goal

pub returns-clause-no_bracket : goal.returns-clause-no_bracket
unfolding computed_reading
returns-clause-no_bracket c = refl

pub returns-clause-nothing_after_locations : goal.returns-clause-nothing_after_locations
unfolding computed_reading
returns-clause-nothing_after_locations c = refl

pub returns-clause-bad_byte_after_locations : goal.returns-clause-bad_byte_after_locations
unfolding computed_reading
returns-clause-bad_byte_after_locations c = refl

pub returns-clause-comment_in_brackets : goal.returns-clause-comment_in_brackets
unfolding computed_reading
returns-clause-comment_in_brackets c = refl

pub returns-clause-open_brackets : goal.returns-clause-open_brackets
unfolding computed_reading
returns-clause-open_brackets c = refl

pub returns-clause-no_proposition : goal.returns-clause-no_proposition
unfolding computed_reading
returns-clause-no_proposition c = refl

pub returns-clause-no_number : goal.returns-clause-no_number
unfolding computed_reading
returns-clause-no_number c = refl

pub returns-clause-open_bracket : goal.returns-clause-open_bracket
unfolding computed_reading
returns-clause-open_bracket c = refl

pub returns-clause-not_forall : goal.returns-clause-not_forall
unfolding computed_reading
returns-clause-not_forall c = refl

pub returns-clause-core_of_atom : goal.returns-clause-core_of_atom
unfolding computed_reading
returns-clause-core_of_atom c = refl

pub returns-clause-large_value : goal.returns-clause-large_value
unfolding computed_reading
returns-clause-large_value c = refl

pub returns-clause-seventeenth_in_condition : goal.returns-clause-seventeenth_in_condition
unfolding computed_reading
returns-clause-seventeenth_in_condition c = refl

pub returns-clause-bad_byte_in_condition : goal.returns-clause-bad_byte_in_condition
unfolding computed_reading
returns-clause-bad_byte_in_condition c = refl

pub returns-clause-after_condition : goal.returns-clause-after_condition
unfolding computed_reading
returns-clause-after_condition c = refl

pub returns-clause-after_locations : goal.returns-clause-after_locations
unfolding computed_reading
returns-clause-after_locations c = refl

pub returns-clause-bad_byte_at_end : goal.returns-clause-bad_byte_at_end
unfolding computed_reading
returns-clause-bad_byte_at_end c = refl

pub returns-clause-long_name_after_condition : goal.returns-clause-long_name_after_condition
unfolding computed_reading
returns-clause-long_name_after_condition c = refl

pub returns-clause-open_comment_at_end : goal.returns-clause-open_comment_at_end
unfolding computed_reading
returns-clause-open_comment_at_end c = refl
