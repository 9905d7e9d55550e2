use Rattle.std.proofs.Common.{refl}
use Rattle.worked_examples.proofs.printed_outcomes.worked_decided_verdicts.Goals as goal

pub returns-clause-exists_one : goal.returns-clause-exists_one
returns-clause-exists_one c = refl

pub returns-clause-exists_none : goal.returns-clause-exists_none
returns-clause-exists_none c = refl

pub returns-clause-not_one : goal.returns-clause-not_one
returns-clause-not_one c = refl

pub returns-clause-not_none : goal.returns-clause-not_none
returns-clause-not_none c = refl

pub returns-clause-forall_one : goal.returns-clause-forall_one
returns-clause-forall_one c = refl

pub returns-clause-forall_both : goal.returns-clause-forall_both
returns-clause-forall_both c = refl
