use Rattle.printed_laws.proofs.steps.PrintedTraces.{lines-named, objects-named}
use Rattle.printed_laws.proofs.traces.printed_traces_tell_their_machines.Goals as goal

pub returns-clause-lines : goal.returns-clause-lines
returns-clause-lines c = lines-named

pub returns-clause-json : goal.returns-clause-json
returns-clause-json c = objects-named c.reports_tell_their_machines.ensures.json c.runs_fit_their_tests.ensures.ended
