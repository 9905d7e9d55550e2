use Rattle.printed_laws.proofs.states.Claims.{ok-is, no-is}
use Rattle.printed_laws.proofs.outcomes.verdicts_mean_what_they_say.Goals as goal

pub returns-clause-ok : goal.returns-clause-ok
returns-clause-ok c = ok-is c.test_is_spelled_once.ensures.within c.ends_are_what_tso_allows.ensures c.truth_is_shown.ensures

pub returns-clause-no : goal.returns-clause-no
returns-clause-no c = no-is c.test_is_spelled_once.ensures.within c.ends_are_what_tso_allows.ensures c.truth_is_shown.ensures
