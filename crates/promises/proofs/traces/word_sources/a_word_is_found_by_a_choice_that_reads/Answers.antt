use Rattle.promises.proofs.traces.word_sources.a_word_is_found_by_a_choice_that_reads.Goals as goal

pub returns : goal.returns
returns given = given.sources_are_told.ensures.reads
