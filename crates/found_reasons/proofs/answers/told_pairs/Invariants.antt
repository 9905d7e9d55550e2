use Rattle.found_reasons.proofs.Vocabulary.{◌≡◌, ◌++◌, map, drop, fact_of, pairs_told}
use Rattle.found_reasons.proofs.answers.told_pairs.Given as goal

abbrev pub invariant-loop-fact : goal.invariant-loop-fact
invariant-loop-fact l = pairs_told (map fact_of l.facts) ≡ l.order.items ++ pairs_told (map fact_of (drop l.fact-index l.facts))
