use Rattle.explorer.proofs.Vocabulary.{◌≡◌, drop, played}
use Rattle.explorer.proofs.link.+path.Given as goal

abbrev pub decreases-path : goal.decreases-path
decreases-path l = l.at

abbrev pub invariant-loop-turn : goal.invariant-loop-turn
invariant-loop-turn l = played l.turn-items l.initial.choices.items ≡ played (drop l.turn-index l.turn-items) l.choices.items
