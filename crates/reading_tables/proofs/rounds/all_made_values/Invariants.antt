use Rattle.std.specs.Prelude.{take}
use Rattle.reading_tables.specs.inner.Told.{all_made}
use Rattle.reading_tables.specs.inner.Tables.{readings_of, AreMadeValues}
use Rattle.reading_tables.proofs.rounds.all_made_values.Given as goal

abbrev pub invariant-loop-making : goal.invariant-loop-making
invariant-loop-making l = AreMadeValues (readings_of l.readings) (all_made (take l.making-index l.makings)) l.made.items
