use Rattle.search_report.proofs.Vocabulary.{drop, IsIn}
use Rattle.search_report.proofs.readings.place_in.Given as goal

abbrev pub invariant-loop-at : goal.invariant-loop-at
invariant-loop-at l = IsIn (drop l.at l.order) l.e
