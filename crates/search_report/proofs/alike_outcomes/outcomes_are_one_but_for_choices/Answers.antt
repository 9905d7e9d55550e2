use Rattle.search_report.proofs.Alike.{one-but-for-choices}
use Rattle.search_report.proofs.alike_outcomes.outcomes_are_one_but_for_choices.Goals as goal

pub returns : goal.returns
returns c = one-but-for-choices
