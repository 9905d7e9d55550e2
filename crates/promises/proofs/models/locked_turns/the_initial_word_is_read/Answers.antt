use Rattle.promises.proofs.models.locked_turns.the_initial_word_is_read.Goals as goal

pub returns : goal.returns
returns given = λ t c loc w a locked i h.
    let f = given.somebody_reads_the_initial_word.ensures t c loc w a locked i h in
    (f.reader, f.part.inside, f.part.kind, f.part.location, f.reads)
