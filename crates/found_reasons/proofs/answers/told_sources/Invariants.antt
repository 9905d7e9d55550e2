use Rattle.found_reasons.proofs.Vocabulary.{◌≡◌, ◌++◌, map, drop, fact_of, sources_told}
use Rattle.found_reasons.proofs.answers.told_sources.Given as goal

abbrev pub invariant-loop-fact : goal.invariant-loop-fact
invariant-loop-fact l = sources_told (map fact_of l.facts) ≡ l.sources.items ++ sources_told (map fact_of (drop l.fact-index l.facts))
