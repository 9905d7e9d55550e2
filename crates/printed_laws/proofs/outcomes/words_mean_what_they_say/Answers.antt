use Rattle.printed_laws.proofs.states.Meaning.{never-means, always-means, sometimes-means}
use Rattle.printed_laws.proofs.outcomes.words_mean_what_they_say.Goals as goal

pub returns-clause-never : goal.returns-clause-never
returns-clause-never c = never-means c.test_is_spelled_once.ensures.within c.ends_are_what_tso_allows.ensures c.truth_is_shown.ensures

pub returns-clause-always : goal.returns-clause-always
returns-clause-always c = always-means c.test_is_spelled_once.ensures.within c.ends_are_what_tso_allows.ensures c.truth_is_shown.ensures

pub returns-clause-sometimes : goal.returns-clause-sometimes
returns-clause-sometimes c = sometimes-means c.test_is_spelled_once.ensures.within c.ends_are_what_tso_allows.ensures c.truth_is_shown.ensures
