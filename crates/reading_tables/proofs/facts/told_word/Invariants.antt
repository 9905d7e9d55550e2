use Rattle.reading_tables.proofs.Vocabulary.{◌≡◌, drop}
use Rattle.possible_reads.specs.Possible.{told_word}
use Rattle.reading_tables.specs.Told.{facts_of}
use Rattle.reading_tables.proofs.facts.told_word.Given as goal

abbrev pub invariant-loop-fact : goal.invariant-loop-fact
invariant-loop-fact l = told_word (facts_of l.facts) l.loc ≡ told_word (facts_of (drop l.fact-index l.facts)) l.loc
