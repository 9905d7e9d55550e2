use Rattle.reading_tables.proofs.Vocabulary.{◌≡◌, drop, list_all}
use Rattle.possible_reads.specs.Possible.{fits_word}
use Rattle.reading_tables.specs.Told.{facts_of}
use Rattle.reading_tables.proofs.facts.may_be_left.Given as goal

abbrev pub invariant-loop-fact : goal.invariant-loop-fact
invariant-loop-fact l = list_all (fits_word l.loc l.word) (facts_of l.facts) ≡ list_all (fits_word l.loc l.word) (facts_of (drop l.fact-index l.facts))
