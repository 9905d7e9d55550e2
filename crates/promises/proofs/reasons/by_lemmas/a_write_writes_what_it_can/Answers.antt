use Rattle.promises.proofs.reasons.by_lemmas.a_write_writes_what_it_can.Goals as goal

pub returns : goal.returns
returns c = c.written_values_are_possible.ensures
