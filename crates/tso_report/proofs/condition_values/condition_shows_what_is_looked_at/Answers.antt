use Rattle.tso_report.proofs.Noting.{nothing-added}
use Rattle.tso_report.proofs.condition_values.condition_shows_what_is_looked_at.Goals as goal

pub returns : goal.returns
returns c = nothing-added
