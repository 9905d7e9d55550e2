use Rattle.printed_laws.proofs.reports.Sweeps.{counts-told}
use Rattle.printed_laws.proofs.runs.sweeps_tell_their_counts.Goals as goal

pub returns : goal.returns
returns c = counts-told
