use Rattle.reading_tables.proofs.Vocabulary.{◌≡◌, drop, list_all}
use Rattle.refutation_laws.specs.Known.{same_event}
use Rattle.reading_tables.proofs.counting.are_all.Given as goal

abbrev pub invariant-loop-w : goal.invariant-loop-w
invariant-loop-w l =
    list_all (same_event l.v) l.writes ≡ list_all (same_event l.v) (drop l.w-index l.writes)
