use Rattle.promises.proofs.traces.word_sources.words_are_found_where_it_is_told.Goals as goal

pub returns-clause-found : goal.returns-clause-found
returns-clause-found given = given.sources_are_told.ensures.found

pub returns-clause-apart : goal.returns-clause-apart
returns-clause-apart given = λ table c t choices choice other test words keeps is.
    (given.sources_are_told.ensures.others table c t choices choice other test words keeps is).0

pub returns-clause-there : goal.returns-clause-there
returns-clause-there given = λ table c t choices choice other test words keeps is.
    (given.sources_are_told.ensures.others table c t choices choice other test words keeps is).1

pub returns-clause-words : goal.returns-clause-words
returns-clause-words given = given.sources_are_told.ensures.words
