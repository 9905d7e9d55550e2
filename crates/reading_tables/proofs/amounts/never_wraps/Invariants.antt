use Rattle.reading_tables.proofs.Vocabulary.{◌≡◌, drop, filter, slice_index}
use Rattle.possible_reads.specs.Possible.{can_add_all}
use Rattle.tso_terms.specs.ProgramOrder.{writes_to}
use Rattle.reading_tables.proofs.amounts.never_wraps.Given as goal

abbrev pub invariant-loop-w : goal.invariant-loop-w
invariant-loop-w l =
    can_add_all l.test (slice_index l.test.words l.loc) (filter (writes_to l.loc) l.events)
    ≡ can_add_all l.test l.sum (filter (writes_to l.loc) (drop l.w-index l.events))
