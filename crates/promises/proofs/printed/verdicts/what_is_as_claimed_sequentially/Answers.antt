use Rattle.promises.proofs.Vocabulary.{refl}
use Rattle.promises.proofs.printed.verdicts.what_is_as_claimed_sequentially.Goals as goal

pub returns-clause-exists : goal.returns-clause-exists
returns-clause-exists c = λ t claim so. so.sequential refl

pub returns-clause-not_exists : goal.returns-clause-not_exists
returns-clause-not_exists c = λ t claim so. so.sequential refl

pub returns-clause-forall_each : goal.returns-clause-forall_each
returns-clause-forall_each c = λ t claim so. so.sequential refl

pub returns-clause-exists_not : goal.returns-clause-exists_not
returns-clause-exists_not c = λ t claim so. so.sequential refl

pub returns-clause-not_exists_not : goal.returns-clause-not_exists_not
returns-clause-not_exists_not c = λ t claim so. so.sequential refl

pub returns-clause-forall_not : goal.returns-clause-forall_not
returns-clause-forall_not c = λ t claim so. so.sequential refl
