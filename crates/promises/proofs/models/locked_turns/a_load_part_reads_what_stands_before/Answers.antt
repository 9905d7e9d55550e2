use Rattle.promises.proofs.models.locked_turns.a_load_part_reads_what_stands_before.Goals as goal

pub returns : goal.returns
returns given = λ t c r a i k.
    let f = given.locked_instructions_take_turns.ensures t c r a i k in
    (f.0, f.1.earlier, f.1.later, f.1.inside, f.1.pair, f.1.location, f.1.coherence, f.1.source)
