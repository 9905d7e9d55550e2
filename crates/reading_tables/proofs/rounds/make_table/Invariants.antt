use Rattle.reading_tables.proofs.Vocabulary.{◌≡◌}
use Rattle.possible_reads.specs.Possible.{readings_after}
use Rattle.reading_tables.specs.Told.{facts_of}
use Rattle.reading_tables.specs.inner.Tables.{readings_of, AreTableValues}
use Rattle.reading_tables.proofs.rounds.make_table.Given as goal

abbrev pub invariant-loop-round : goal.invariant-loop-round
invariant-loop-round l = record {
  readings : readings_of l.table.readings.items ≡ readings_after l.problem.test.now (facts_of l.facts) l._round;
  values : AreTableValues l.problem l.table;
}
