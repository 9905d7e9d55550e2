use Rattle.std.proofs.Common.{refl}
use Rattle.worked_examples.proofs.TextsRead.{computed_reading}
use Rattle.worked_examples.proofs.refusals.worked_larger_refusals.Goals as goal

pub returns-clause-hexadecimal : goal.returns-clause-hexadecimal
unfolding computed_reading
returns-clause-hexadecimal c = refl

pub returns-clause-hexadecimal_is_read : goal.returns-clause-hexadecimal_is_read
unfolding computed_reading
returns-clause-hexadecimal_is_read c = refl

pub returns-clause-negative : goal.returns-clause-negative
unfolding computed_reading
returns-clause-negative c = refl

pub returns-clause-negative_is_read : goal.returns-clause-negative_is_read
unfolding computed_reading
returns-clause-negative_is_read c = refl

pub returns-clause-locked : goal.returns-clause-locked
unfolding computed_reading
returns-clause-locked c = refl

pub returns-clause-locked_is_read : goal.returns-clause-locked_is_read
unfolding computed_reading
returns-clause-locked_is_read c = refl

pub returns-clause-swap : goal.returns-clause-swap
unfolding computed_reading
returns-clause-swap c = refl

pub returns-clause-swap_is_read : goal.returns-clause-swap_is_read
unfolding computed_reading
returns-clause-swap_is_read c = refl

pub returns-clause-least : goal.returns-clause-least
unfolding computed_reading
returns-clause-least c = refl

pub returns-clause-less : goal.returns-clause-less
unfolding computed_reading
returns-clause-less c = refl

pub returns-clause-greatest : goal.returns-clause-greatest
unfolding computed_reading
returns-clause-greatest c = refl

pub returns-clause-greater : goal.returns-clause-greater
unfolding computed_reading
returns-clause-greater c = refl

pub returns-clause-no_digit : goal.returns-clause-no_digit
unfolding computed_reading
returns-clause-no_digit c = refl

pub returns-clause-two_signs : goal.returns-clause-two_signs
unfolding computed_reading
returns-clause-two_signs c = refl

pub returns-clause-hexadecimal_core : goal.returns-clause-hexadecimal_core
unfolding computed_reading
returns-clause-hexadecimal_core c = refl

pub returns-clause-not_locked : goal.returns-clause-not_locked
unfolding computed_reading
returns-clause-not_locked c = refl

pub returns-clause-compare_not_locked : goal.returns-clause-compare_not_locked
unfolding computed_reading
returns-clause-compare_not_locked c = refl

pub returns-clause-register_locked : goal.returns-clause-register_locked
unfolding computed_reading
returns-clause-register_locked c = refl

pub returns-clause-swap_locked : goal.returns-clause-swap_locked
unfolding computed_reading
returns-clause-swap_locked c = refl

pub returns-clause-number_compared : goal.returns-clause-number_compared
unfolding computed_reading
returns-clause-number_compared c = refl

pub returns-clause-from_memory : goal.returns-clause-from_memory
unfolding computed_reading
returns-clause-from_memory c = refl

pub returns-clause-one_too_many : goal.returns-clause-one_too_many
unfolding computed_reading
returns-clause-one_too_many c = refl

pub returns-clause-one_for_none : goal.returns-clause-one_for_none
unfolding computed_reading
returns-clause-one_for_none c = refl
