use Rattle.printed_laws.proofs.steps.PrintedTraces.{lines-told, objects-told}
use Rattle.printed_laws.proofs.traces.printed_traces_are_told.Goals as goal

pub returns-clause-lines : goal.returns-clause-lines
returns-clause-lines c = lines-told c.printed_runs_are_told.ensures

pub returns-clause-json : goal.returns-clause-json
returns-clause-json c = objects-told c.printed_runs_are_told.ensures c.runs_fit_their_tests.ensures.ended c.runs_fit_their_tests.ensures.choices
