use Rattle.litmus_reader.proofs.Vocabulary.{◌≡◌, length, texts, rows_at, tokens_in, stop_of}
use Rattle.litmus_reader.proofs.RowSteps.{RowsAfter}
use Rattle.litmus_reader.proofs.row.read_table.Given as goal

abbrev pub invariant-rows : goal.invariant-rows
invariant-rows l = record {
  rows : RowsAfter l.set (stop_of l.set l.text) l.cores l.table.instrs.items (texts l.names.items)
      (tokens_in l.set l.rest)
      (rows_at l.set (stop_of l.set l.text) l.cores (texts l.initial.names.items) (tokens_in l.set l.initial.rest));
  stop_kept : stop_of l.set l.rest ≡ stop_of l.set l.text;
  cores_kept : l.table.cores ≡ l.cores;
  registers_kept : l.table.registers.items ≡ l.initial.table.registers.items;
}

abbrev pub decreases-rows : goal.decreases-rows
decreases-rows l = length l.rest
