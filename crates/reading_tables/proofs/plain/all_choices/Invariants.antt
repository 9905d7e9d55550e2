use Rattle.reading_tables.proofs.Vocabulary.{◌≡◌, ◌++◌, drop, filter, map}
use Rattle.tso_terms.specs.ProgramOrder.{is_write}
use Rattle.reading_tables.specs.inner.Plain.{choice_of}
use Rattle.reading_tables.proofs.plain.all_choices.Given as goal

abbrev pub invariant-loop-e : goal.invariant-loop-e
invariant-loop-e l =
    map (choice_of l.written) (filter is_write l.events)
    ≡ l.all.items ++ map (choice_of l.written) (filter is_write (drop l.e-index l.events))
