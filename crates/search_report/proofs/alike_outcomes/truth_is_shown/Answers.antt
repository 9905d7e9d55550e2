use Rattle.search_report.proofs.Showing.{truth-shown}
use Rattle.search_report.proofs.alike_outcomes.truth_is_shown.Goals as goal

pub returns : goal.returns
returns c = truth-shown
