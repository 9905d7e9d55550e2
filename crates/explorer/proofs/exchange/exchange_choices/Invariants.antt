use Rattle.explorer.proofs.Vocabulary.{exchanged_choice}
use Rattle.explorer.proofs.Mapping.{IsMapping}
use Rattle.explorer.proofs.exchange.exchange_choices.Given as goal

abbrev pub invariant-loop-at : goal.invariant-loop-at
invariant-loop-at l = IsMapping (exchanged_choice l.pair) l.fn.choices.items l.choices.items l.at
