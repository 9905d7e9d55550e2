use Rattle.promises.proofs.models.locked_turns.additions_add_up.Goals as goal

pub returns-clause-last : goal.returns-clause-last
returns-clause-last given = λ t c loc addend w a added i h. given.words_add_up.ensures t c loc addend w a added i h

pub returns-clause-read : goal.returns-clause-read
returns-clause-read given = λ t c loc addend r a added i k e.
    let f = given.reads_add_up.ensures t c loc addend r a added (record { inside = i; kind = k; location = e }) in
    (f.own, f.earlier, f.later, f.pair, f.coherence, f.value)
