use Rattle.reading_tables.proofs.Vocabulary.{◌≡◌, drop, ◌++◌, ◌∷◌, None, Some, map, filter}
use Rattle.tso_terms.specs.ProgramOrder.{writes_to}
use Rattle.reading_tables.proofs.sources.first_sources.Given as goal

abbrev pub invariant-loop-w : goal.invariant-loop-w
invariant-loop-w l =
    None ∷ map (λ w. Some w) (filter (writes_to l.read.loc.0) l.events)
    ≡ l.sources.items ++ map (λ w. Some w) (filter (writes_to l.read.loc.0) (drop l.w-index l.events))
