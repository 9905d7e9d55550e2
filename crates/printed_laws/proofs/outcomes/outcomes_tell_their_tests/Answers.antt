use Rattle.printed_laws.proofs.states.OutcomeLines.{lines-name}
use Rattle.printed_laws.proofs.states.OutcomeObjects.{objects-name}
use Rattle.printed_laws.proofs.outcomes.outcomes_tell_their_tests.Goals as goal

pub returns-clause-lines : goal.returns-clause-lines
returns-clause-lines c = lines-name

pub returns-clause-json : goal.returns-clause-json
returns-clause-json c = objects-name
