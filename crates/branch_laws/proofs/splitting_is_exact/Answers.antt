use Rattle.branch_laws.proofs.Splitting.{own-path, some-path, same-outcomes}
use Rattle.branch_laws.proofs.splitting_is_exact.Goals as goal

pub returns : goal.returns
returns c = record { own_path = own-path; some_path = some-path; outcomes = same-outcomes }
