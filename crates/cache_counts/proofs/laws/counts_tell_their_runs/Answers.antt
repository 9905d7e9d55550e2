use Rattle.cache_counts.proofs.Told.{counts-tell}
use Rattle.cache_counts.proofs.laws.counts_tell_their_runs.Goals as goal

pub returns : goal.returns
returns c = counts-tell
