use Rattle.printed_laws.proofs.steps.PrintedTraces.{values-told}
use Rattle.printed_laws.proofs.steps.TraceLines.{lines-tell}
use Rattle.printed_laws.proofs.steps.TraceObjects.{objects-tell}
use Rattle.printed_laws.proofs.traces.traces_tell_their_steps.Goals as goal

pub returns-clause-lines : goal.returns-clause-lines
returns-clause-lines c = lines-tell

pub returns-clause-object : goal.returns-clause-object
returns-clause-object c = objects-tell

pub returns-clause-json : goal.returns-clause-json
returns-clause-json c = values-told
