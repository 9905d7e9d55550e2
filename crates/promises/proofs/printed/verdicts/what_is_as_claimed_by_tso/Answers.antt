use Rattle.promises.proofs.Vocabulary.{true, refl, arith}
use Rattle.promises.proofs.SomeExecution.{needs-no-more}
use Rattle.promises.proofs.printed.verdicts.what_is_as_claimed_by_tso.Goals as goal

pub returns-clause-exists : goal.returns-clause-exists
returns-clause-exists c = λ t claim so. needs-no-more t claim true 32 (so.buffered (omega arith))

pub returns-clause-not_exists : goal.returns-clause-not_exists
returns-clause-not_exists c = λ t claim so. so.tso refl

pub returns-clause-forall_each : goal.returns-clause-forall_each
returns-clause-forall_each c = λ t claim so. so.tso refl
