use Rattle.found_reasons.proofs.Vocabulary.{◌≡◌, ◌++◌, option_map, drop, take, up_to}
use Rattle.found_reasons.proofs.cycle.place_of.Given as goal

abbrev pub invariant-loop-at : goal.invariant-loop-at
invariant-loop-at l = up_to l.x l.path ≡ option_map (λ f. take l.at l.path ++ f) (up_to l.x (drop l.at l.path))
