use Rattle.search_report.proofs.Vocabulary.{◌≡◌, ◌++◌, drop, filter}
use Rattle.reading_tables.specs.Told.{facts_of}
use Rattle.search_report.specs.Shown.{is_on_events}
use Rattle.search_report.proofs.shown_places.facts_on_events.Given as goal

abbrev pub invariant-loop-fact : goal.invariant-loop-fact
invariant-loop-fact l =
    facts_of l.kept.items ++ filter is_on_events (facts_of (drop l.fact-index l.facts)) ≡ filter is_on_events (facts_of l.facts)
