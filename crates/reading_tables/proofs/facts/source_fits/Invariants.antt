use Rattle.reading_tables.proofs.Vocabulary.{◌≡◌, drop, list_all}
use Rattle.possible_reads.specs.Possible.{fits_source}
use Rattle.reading_tables.specs.Told.{facts_of}
use Rattle.reading_tables.proofs.facts.source_fits.Given as goal

abbrev pub invariant-loop-fact : goal.invariant-loop-fact
invariant-loop-fact l =
    list_all (fits_source l.read l.source) (facts_of l.facts)
    ≡ list_all (fits_source l.read l.source) (facts_of (drop l.fact-index l.facts))
