use Rattle.search_report.proofs.Vocabulary.{◌≡◌, ◌++◌, drop, map}
use Rattle.lemma_refutations.specs.Refutations.{known_from}
use Rattle.reading_tables.specs.Told.{facts_of}
use Rattle.search_report.specs.Shown as spec
use Rattle.search_report.specs.inner.ShownViews.{shown_fact_of}
use Rattle.search_report.proofs.shown_facts.add_shown_anywhere.Given as goal

abbrev pub invariant-loop-at : goal.invariant-loop-at
invariant-loop-at l =
    map shown_fact_of l.shown.items ++ spec.shown_facts l.test (known_from l.test (facts_of l.facts)) (facts_of (drop l.at l.facts))
    ≡ map shown_fact_of l.fn.shown.items ++ spec.shown_facts l.test (known_from l.test (facts_of l.facts)) (facts_of l.facts)
