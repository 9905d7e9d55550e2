use Rattle.search_report.proofs.Vocabulary.{◌≡◌, ◌++◌, drop, map, place_of}
use Rattle.refutation_checker.specs.inner.Branches.{knowledge_of}
use Rattle.search_report.specs.Shown as spec
use Rattle.search_report.proofs.shown_places.places_in.Given as goal

abbrev pub invariant-loop-named : goal.invariant-loop-named
invariant-loop-named l =
    map place_of l.places.items ++ spec.places_at l.told.test.now (knowledge_of l.told) (drop l.named-index l.named-items)
    ≡ spec.places_at l.told.test.now (knowledge_of l.told) l.named-items
