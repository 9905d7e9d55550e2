use Rattle.reading_tables.proofs.Vocabulary.{◌≡◌, Some, drop, filter, list_all, map}
use Rattle.tso_terms.specs.ProgramOrder.{writes_to}
use Rattle.possible_reads.specs.Possible.{same_source}
use Rattle.reading_tables.proofs.sources.is_only_source.Given as goal

abbrev pub invariant-loop-w : goal.invariant-loop-w
invariant-loop-w l =
    list_all (same_source l.source) (map (λ w. Some w) (filter (writes_to l.read.loc.0) l.events))
    ≡ list_all (same_source l.source) (map (λ w. Some w) (filter (writes_to l.read.loc.0) (drop l.w-index l.events)))
