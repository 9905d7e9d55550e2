use Rattle.reading_tables.proofs.Vocabulary.{◌∙◌, ap, map}
use Rattle.std.specs.Prelude.{slice_set}
use Rattle.std.proofs.lemmas.List.{map-set}
use Rattle.reading_tables.specs.inner.Told.{held_of}
use Rattle.reading_tables.proofs.Makings.{made-set}
use Rattle.reading_tables.proofs.expressions.set_register.Goals as goal

pub returns-clause-held : goal.returns-clause-held
returns-clause-held c made =
    map-set (held_of made) c.args.registers.now c.index.result c.args.held
    ∙ ap (λ i. slice_set (map (held_of made) c.args.registers.now) i (held_of made c.args.held)) c.index.ensures.place

pub returns-clause-made : goal.returns-clause-made
returns-clause-made c count old new = made-set count c.args.registers.now c.index.result c.args.held old new
