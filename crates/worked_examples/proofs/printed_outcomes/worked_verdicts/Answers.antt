use Rattle.std.proofs.Common.{refl}
use Rattle.std.specs.Fmt.{digits}
use Rattle.worked_examples.proofs.printed_outcomes.worked_verdicts.Goals as goal

pub returns-clause-exists_one : goal.returns-clause-exists_one
unfolding digits
returns-clause-exists_one c = refl

pub returns-clause-exists_none : goal.returns-clause-exists_none
unfolding digits
returns-clause-exists_none c = refl

pub returns-clause-not_one : goal.returns-clause-not_one
unfolding digits
returns-clause-not_one c = refl

pub returns-clause-not_none : goal.returns-clause-not_none
unfolding digits
returns-clause-not_none c = refl

pub returns-clause-forall_three : goal.returns-clause-forall_three
unfolding digits
returns-clause-forall_three c = refl

pub returns-clause-forall_four : goal.returns-clause-forall_four
unfolding digits
returns-clause-forall_four c = refl
