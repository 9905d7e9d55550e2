use Rattle.litmus_reader.proofs.Vocabulary.{◌≡◌, ◌-◌, ◌≤◌, most_cores, columns, pieces, part_of, BadHeaderRow}
use Rattle.litmus_reader.proofs.columns.columns_at.Given as goal

abbrev pub invariant-columns : goal.invariant-columns
invariant-columns l = record {
  part_is : l.part ≡ part_of BadHeaderRow l.fn.stop;
  cores : l.core ≤ most_cores;
  rest : columns l.fn.stop (most_cores - l.core) l.core (pieces l.rest) ≡ columns l.fn.stop most_cores 0 (pieces l.fn.tokens);
}

abbrev pub decreases-columns : goal.decreases-columns
decreases-columns l = most_cores - l.core
