use Rattle.printed_laws.proofs.states.TrueStates.{true-names, holds-tells}
use Rattle.printed_laws.proofs.outcomes.true_names_the_true_states.Goals as goal

pub returns-clause-lines : goal.returns-clause-lines
returns-clause-lines c = true-names c.truth_is_shown.ensures

pub returns-clause-json : goal.returns-clause-json
returns-clause-json c = holds-tells c.truth_is_shown.ensures
