use Rattle.search_report.proofs.Writing.{Made}
use Rattle.search_report.proofs.outcomes_as_json.states_value.Given as goal

abbrev pub invariant-loop-values : goal.invariant-loop-values
invariant-loop-values l = Made l.test l.names l.states l.values-iterator l.outcomes.entries
