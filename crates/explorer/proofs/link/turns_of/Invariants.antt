use Rattle.explorer.proofs.Vocabulary.{◌≡◌, ◌++◌, take, map, Made, Exchanged}
use Rattle.explorer.proofs.link.turns_of.Given as goal

abbrev pub invariant-loop-choice : goal.invariant-loop-choice
invariant-loop-choice l = l.turns.items ≡ map Made (take l.choice-index l.choices)

abbrev pub invariant-loop-pair : goal.invariant-loop-pair
invariant-loop-pair l = l.turns.items ≡ l.initial.turns.items ++ map Exchanged (take l.pair-index l.exchanges)
