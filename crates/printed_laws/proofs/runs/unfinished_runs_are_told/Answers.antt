use Rattle.printed_laws.proofs.reports.Unfinished.{line-tells, json-tells}
use Rattle.printed_laws.proofs.runs.unfinished_runs_are_told.Goals as goal

pub returns-clause-line : goal.returns-clause-line
returns-clause-line c = line-tells

pub returns-clause-json : goal.returns-clause-json
returns-clause-json c = json-tells
