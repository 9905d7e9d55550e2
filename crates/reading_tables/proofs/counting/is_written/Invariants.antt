use Rattle.reading_tables.proofs.Vocabulary.{◌≡◌, drop, list_any}
use Rattle.tso_terms.specs.ProgramOrder.{writes_to}
use Rattle.reading_tables.proofs.counting.is_written.Given as goal

abbrev pub invariant-loop-w : goal.invariant-loop-w
invariant-loop-w l =
    list_any (writes_to l.loc) l.events ≡ list_any (writes_to l.loc) (drop l.w-index l.events)
