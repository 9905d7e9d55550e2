use Rattle.tso_laws.proofs.Rounds.{rounds-end}
use Rattle.tso_laws.proofs.flat_runs.fair_rounds_end.Goals as goal

pub returns : goal.returns
returns c = rounds-end
