use Rattle.std.proofs.Common.{refl}
use Rattle.promises.proofs.counts.sums.where_no_run_ended_there_is_no_number.Goals as goal

pub returns-clause-lines : goal.returns-clause-lines
returns-clause-lines given = λ t k none. rw none refl

pub returns-clause-value : goal.returns-clause-value
returns-clause-value given = λ t k none. rw none refl
