use Rattle.std.proofs.Common.{refl}
use Rattle.worked_examples.proofs.TextsRead.{computed_reading}
use Rattle.worked_examples.proofs.refusals.worked_header_refusals.Goals as goal

pub returns-clause-comment_before_header : goal.returns-clause-comment_before_header
unfolding computed_reading
returns-clause-comment_before_header c = refl

pub returns-clause-long_name_in_header : goal.returns-clause-long_name_in_header
unfolding computed_reading
returns-clause-long_name_in_header c = refl

pub returns-clause-long_name_with_tab_in_it : goal.returns-clause-long_name_with_tab_in_it
unfolding computed_reading
returns-clause-long_name_with_tab_in_it c = refl

pub returns-clause-other_machine : goal.returns-clause-other_machine
unfolding computed_reading
returns-clause-other_machine c = refl

pub returns-clause-no_name : goal.returns-clause-no_name
unfolding computed_reading
returns-clause-no_name c = refl

pub returns-clause-empty : goal.returns-clause-empty
unfolding computed_reading
returns-clause-empty c = refl

pub returns-clause-comment_in_information : goal.returns-clause-comment_in_information
unfolding computed_reading
returns-clause-comment_in_information c = refl

pub returns-clause-no_initial_state : goal.returns-clause-no_initial_state
unfolding computed_reading
returns-clause-no_initial_state c = refl

pub returns-clause-open_quotation : goal.returns-clause-open_quotation
unfolding computed_reading
returns-clause-open_quotation c = refl

pub returns-clause-no_equals : goal.returns-clause-no_equals
unfolding computed_reading
returns-clause-no_equals c = refl

pub returns-clause-no_key : goal.returns-clause-no_key
unfolding computed_reading
returns-clause-no_key c = refl
