use Rattle.worked_examples.proofs.NineStates.{nine-states, no-tenth}
use Rattle.worked_examples.proofs.searches.worked_reachable_states.Goals as goal

pub returns-clause-nine : goal.returns-clause-nine
returns-clause-nine c = nine-states

pub returns-clause-no_tenth : goal.returns-clause-no_tenth
returns-clause-no_tenth c = no-tenth
