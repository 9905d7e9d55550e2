use Rattle.printed_laws.proofs.states.Claims.{verdicts-agree}
use Rattle.printed_laws.proofs.outcomes.both_commands_print_one_verdict.Goals as goal

pub returns : goal.returns
returns c = verdicts-agree c.test_is_spelled_once.ensures.within c.truth_is_shown.ensures
