use Rattle.reading_tables.proofs.Vocabulary.{◌≡◌, ◌++◌, drop, filter}
use Rattle.reading_tables.specs.Told.{facts_of}
use Rattle.reading_tables.specs.inner.Told.{speaks_of}
use Rattle.reading_tables.proofs.facts.facts_of_read.Given as goal

abbrev pub invariant-loop-fact : goal.invariant-loop-fact
invariant-loop-fact l = filter (speaks_of l.read) (facts_of l.facts) ≡ facts_of l.own.items ++ filter (speaks_of l.read) (facts_of (drop l.fact-index l.facts))
