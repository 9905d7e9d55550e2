use Rattle.reading_tables.proofs.Vocabulary.{◌≡◌, drop, list_all}
use Rattle.possible_reads.specs.Possible.{fits_value}
use Rattle.reading_tables.specs.Told.{facts_of}
use Rattle.reading_tables.proofs.facts.may_return.Given as goal

abbrev pub invariant-loop-fact : goal.invariant-loop-fact
invariant-loop-fact l = list_all (fits_value l.read l.value) (facts_of l.facts) ≡ list_all (fits_value l.read l.value) (facts_of (drop l.fact-index l.facts))
