use Rattle.promises.proofs.reasons.by_lemmas.a_read_returns_no_less.Goals as goal

pub returns : goal.returns
returns c t k facts rounds read r a met at p = (c.readings_are_possible.ensures t k facts rounds read r a met at p).least
