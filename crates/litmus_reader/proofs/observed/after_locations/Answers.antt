use Rattle.litmus_reader.proofs.Vocabulary.{sym, ◌∙◌, piece_of}
use Rattle.std.proofs.Common.{codes}
use Rattle.litmus_reader.proofs.SectionSteps.{word_begins, word_differs}
use Rattle.litmus_reader.proofs.observed.after_locations.Goals as goal

pub returns-then-is_locations-clause-value : goal.returns-then-is_locations-clause-value
returns-then-is_locations-clause-value c =
    word_begins c.args.set (codes "locations") c.args.text.now c.in-Ok.rest.now (piece_of c.in-Ok.first)
    c.in-Ok.ensures.value (sym c.is_locations.ensures ∙ c.if-is_locations.true)

pub returns-else-is_locations-clause-value : goal.returns-else-is_locations-clause-value
returns-else-is_locations-clause-value c =
    word_differs c.args.set (codes "locations") c.args.text.now c.in-Ok.rest.now (piece_of c.in-Ok.first)
    c.in-Ok.ensures.value (sym c.is_locations.ensures ∙ c.if-is_locations.false)
