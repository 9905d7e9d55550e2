use Rattle.promises.proofs.Vocabulary.{inl, inr}
use Rattle.promises.proofs.models.locked_turns.a_write_is_read_or_the_last.Goals as goal

pub returns : goal.returns
returns given = λ t c loc w a locked i h.
    elim (given.each_but_the_last_is_read.ensures t c loc w a locked i h) [
      | inl e ↦ inl e
      | inr f ↦ inr (f.reader, f.part.inside, f.part.kind, f.part.location, f.reads)
    ]
