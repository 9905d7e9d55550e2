use Rattle.reading_tables.proofs.Vocabulary.{◌≡◌, drop}
use Rattle.possible_reads.specs.Possible.{told_value}
use Rattle.reading_tables.specs.Told.{facts_of}
use Rattle.reading_tables.proofs.facts.told_value.Given as goal

abbrev pub invariant-loop-fact : goal.invariant-loop-fact
invariant-loop-fact l = told_value (facts_of l.facts) l.read ≡ told_value (facts_of (drop l.fact-index l.facts)) l.read
