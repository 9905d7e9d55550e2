use Rattle.std.proofs.Common.{refl}
use Rattle.worked_examples.proofs.TextsRead.{computed_reading}
use Rattle.worked_examples.proofs.refusals.worked_initial_refusals.Goals as goal

pub returns-clause-no_end : goal.returns-clause-no_end
unfolding computed_reading
returns-clause-no_end c = refl

pub returns-clause-no_value : goal.returns-clause-no_value
unfolding computed_reading
returns-clause-no_value c = refl

pub returns-clause-no_register : goal.returns-clause-no_register
unfolding computed_reading
returns-clause-no_register c = refl

pub returns-clause-open_state : goal.returns-clause-open_state
unfolding computed_reading
returns-clause-open_state c = refl

pub returns-clause-large_value : goal.returns-clause-large_value
unfolding computed_reading
returns-clause-large_value c = refl

pub returns-clause-large_value_goes_on : goal.returns-clause-large_value_goes_on
unfolding computed_reading
returns-clause-large_value_goes_on c = refl

pub returns-clause-seventeenth : goal.returns-clause-seventeenth
unfolding computed_reading
returns-clause-seventeenth c = refl

pub returns-clause-large_seventeenth : goal.returns-clause-large_seventeenth
unfolding computed_reading
returns-clause-large_seventeenth c = refl

pub returns-clause-location_twice : goal.returns-clause-location_twice
unfolding computed_reading
returns-clause-location_twice c = refl

pub returns-clause-register_twice : goal.returns-clause-register_twice
unfolding computed_reading
returns-clause-register_twice c = refl

pub returns-clause-bad_byte : goal.returns-clause-bad_byte
unfolding computed_reading
returns-clause-bad_byte c = refl

pub returns-clause-long_name_in_item : goal.returns-clause-long_name_in_item
unfolding computed_reading
returns-clause-long_name_in_item c = refl

pub returns-clause-open_comment : goal.returns-clause-open_comment
unfolding computed_reading
returns-clause-open_comment c = refl
