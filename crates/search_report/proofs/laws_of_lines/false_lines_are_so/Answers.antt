use Rattle.search_report.proofs.FalsePlaces.{false-so}
use Rattle.search_report.proofs.laws_of_lines.false_lines_are_so.Goals as goal

pub returns : goal.returns
returns c = false-so
