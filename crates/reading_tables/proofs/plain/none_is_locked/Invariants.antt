use Rattle.reading_tables.proofs.Vocabulary.{◌≡◌, drop, list_all}
use Rattle.reading_tables.specs.inner.Plain.{is_no_load_part}
use Rattle.reading_tables.proofs.plain.none_is_locked.Given as goal

abbrev pub invariant-loop-e : goal.invariant-loop-e
invariant-loop-e l = list_all is_no_load_part l.events ≡ list_all is_no_load_part (drop l.e-index l.events)
