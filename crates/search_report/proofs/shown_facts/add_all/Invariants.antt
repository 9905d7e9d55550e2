use Rattle.search_report.proofs.Vocabulary.{◌≡◌, ◌++◌, drop, map}
use Rattle.reading_tables.specs.Told.{facts_of}
use Rattle.refutation_checker.specs.inner.Branches.{knowledge_of}
use Rattle.search_report.specs.Shown as spec
use Rattle.search_report.specs.inner.ShownViews.{shown_fact_of}
use Rattle.search_report.proofs.shown_facts.add_all.Given as goal

abbrev pub invariant-loop-fact : goal.invariant-loop-fact
invariant-loop-fact l =
    map shown_fact_of l.shown.items ++ map (spec.shown_at l.told.test.now (knowledge_of l.told)) (facts_of (drop l.fact-index l.facts))
    ≡ map shown_fact_of l.fn.shown.items ++ map (spec.shown_at l.told.test.now (knowledge_of l.told)) (facts_of l.facts)
