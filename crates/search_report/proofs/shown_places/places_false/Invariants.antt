use Rattle.search_report.proofs.Vocabulary.{◌≡◌, drop}
use Rattle.reading_tables.specs.Told.{facts_of}
use Rattle.refutation_checker.specs.inner.Branches.{knowledge_of}
use Rattle.search_report.specs.Shown as spec
use Rattle.search_report.proofs.shown_places.places_false.Given as goal

abbrev pub invariant-loop-fact : goal.invariant-loop-fact
invariant-loop-fact l =
    spec.places_false l.told.test.now (knowledge_of l.told) (facts_of l.told.facts.now)
    ≡ spec.places_false l.told.test.now (knowledge_of l.told) (facts_of (drop l.fact-index l.told.facts.now))
