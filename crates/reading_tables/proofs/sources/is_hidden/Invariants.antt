use Rattle.reading_tables.proofs.Vocabulary.{◌≡◌, drop, list_any, ◌&&◌}
use Rattle.tso_terms.specs.ProgramOrder.{writes_to, is_before}
use Rattle.reading_tables.proofs.sources.is_hidden.Given as goal

abbrev pub invariant-loop-w : goal.invariant-loop-w
invariant-loop-w l =
    list_any (λ w. writes_to l.read.loc.0 w && is_before w l.read) l.events
    ≡ list_any (λ w. writes_to l.read.loc.0 w && is_before w l.read) (drop l.w-index l.events)
