use Rattle.explorer.proofs.Vocabulary.{sym, ◌∙◌}
use Rattle.explorer.proofs.Marks.{none-left}
use Rattle.explorer.proofs.stubborn.is_apart_write.Goals as goal

pub returns : goal.returns
returns c = λ q. (
  sym c.pending.ensures ∙ none-left c.pending.result.now (sym c.is_empty.ensures ∙ c.if-not-is_empty.false),
  c.others_are_held_back.ensures q,
)
