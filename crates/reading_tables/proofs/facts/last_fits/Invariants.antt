use Rattle.reading_tables.proofs.Vocabulary.{◌≡◌, drop, list_all}
use Rattle.possible_reads.specs.Possible.{fits_last}
use Rattle.reading_tables.specs.Told.{facts_of}
use Rattle.reading_tables.proofs.facts.last_fits.Given as goal

abbrev pub invariant-loop-fact : goal.invariant-loop-fact
invariant-loop-fact l = list_all (fits_last l.loc l.w) (facts_of l.facts) ≡ list_all (fits_last l.loc l.w) (facts_of (drop l.fact-index l.facts))
