use Rattle.printed_laws.proofs.states.StatesFit.{states-fit}
use Rattle.printed_laws.proofs.outcomes.printed_states_fit_their_test.Goals as goal

pub returns : goal.returns
returns c = states-fit c.values_are_words.ensures.in_runs
