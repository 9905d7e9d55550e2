use Rattle.reading_tables.proofs.Vocabulary.{◌∙◌, ap, sym, map}
use Rattle.possible_reads.specs.Expressions.{Returned, taken_by}
use Rattle.reading_tables.specs.inner.Told.{held_of}
use Rattle.reading_tables.proofs.expressions.take_returned.Goals as goal

pub returns-in-Some-clause-held : goal.returns-in-Some-clause-held
returns-in-Some-clause-held c made =
    c.set_register.ensures.held made
    ∙ ap (λ target. taken_by (map (held_of made) c.args.registers.now) target (Returned c.args.read)) (sym c.in-Some.is)

pub returns-in-Some-clause-made : goal.returns-in-Some-clause-made
returns-in-Some-clause-made c count old = c.set_register.ensures.made count old tt
