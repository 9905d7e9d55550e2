use Rattle.reading_tables.proofs.Vocabulary.{◌≡◌, List, drop, ◌++◌, map}
use Rattle.possible_reads.specs.Expressions.{Expression}
use Rattle.possible_reads.specs.Possible.{values_of, values_read}
use Rattle.reading_tables.specs.inner.Tables.{readings_of, AreMadeValues}
use Rattle.reading_tables.specs.inner.Told.{known_of, held_of}
use Rattle.reading_tables.specs.declared.expressions.Written.{Written}
use Rattle.reading_tables.proofs.rounds.write_values.Given as goal

abbrev pub invariant-loop-x : goal.invariant-loop-x
invariant-loop-x l =
    (es : List Expression) → AreMadeValues (readings_of l.readings) es l.made
    → map (λ (x : Written). values_of (values_read (readings_of l.readings)) (held_of es x.value)) l.written
    ≡ map known_of l.values.items ++ map (λ (x : Written). values_of (values_read (readings_of l.readings)) (held_of es x.value)) (drop l.x-index l.written)
