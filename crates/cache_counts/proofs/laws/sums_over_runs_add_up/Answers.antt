use Rattle.cache_counts.proofs.SumsAdding.{sums-add-up}
use Rattle.cache_counts.proofs.laws.sums_over_runs_add_up.Goals as goal

pub returns : goal.returns
returns c = sums-add-up c.counts_add_up.ensures
