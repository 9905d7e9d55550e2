use Rattle.printed_laws.proofs.states.OutcomeLines.{lines-tell}
use Rattle.printed_laws.proofs.states.OutcomeObjects.{objects-tell}
use Rattle.printed_laws.proofs.outcomes.outcomes_tell_their_states.Goals as goal

pub returns-clause-lines : goal.returns-clause-lines
returns-clause-lines c = lines-tell

pub returns-clause-json : goal.returns-clause-json
returns-clause-json c = objects-tell
