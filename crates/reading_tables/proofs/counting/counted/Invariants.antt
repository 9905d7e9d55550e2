use Rattle.reading_tables.proofs.Vocabulary.{◌≡◌, drop, filter, slice_index}
use Rattle.possible_reads.specs.Possible.{word_after}
use Rattle.tso_terms.specs.ProgramOrder.{writes_to}
use Rattle.reading_tables.proofs.counting.counted.Given as goal

abbrev pub invariant-loop-w : goal.invariant-loop-w
invariant-loop-w l =
    word_after l.told.test.now (filter (writes_to l.loc) l.w-items) (slice_index l.told.test.now.words l.loc)
    ≡ word_after l.told.test.now (filter (writes_to l.loc) (drop l.w-index l.w-items)) l.word
