use Rattle.reading_tables.proofs.Vocabulary.{◌≡◌, drop, list_all}
use Rattle.possible_reads.specs.Possible.{adds_alone}
use Rattle.reading_tables.proofs.counting.all_add.Given as goal

abbrev pub invariant-loop-e : goal.invariant-loop-e
invariant-loop-e l =
    list_all (adds_alone l.told.test.now l.loc) l.e-items ≡ list_all (adds_alone l.told.test.now l.loc) (drop l.e-index l.e-items)
