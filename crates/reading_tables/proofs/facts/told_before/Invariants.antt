use Rattle.reading_tables.proofs.Vocabulary.{◌≡◌, drop, list_any}
use Rattle.possible_reads.specs.Possible.{is_told_before}
use Rattle.reading_tables.specs.Told.{facts_of}
use Rattle.reading_tables.proofs.facts.told_before.Given as goal

abbrev pub invariant-loop-fact : goal.invariant-loop-fact
invariant-loop-fact l = list_any (is_told_before l.w l.v) (facts_of l.facts) ≡ list_any (is_told_before l.w l.v) (facts_of (drop l.fact-index l.facts))
