use Rattle.search_report.proofs.Alike.{same-values-alike}
use Rattle.search_report.proofs.alike_outcomes.outcomes_of_the_same_values_are_alike.Goals as goal

pub returns : goal.returns
returns c = same-values-alike
