use Rattle.litmus_reader.proofs.Vocabulary.{◌≡◌, ◌≤◌, ◌+◌, length, pieces, texts, cells_after, cells_in, cells_of}
use Rattle.litmus_reader.proofs.Cells.{room_of}
use Rattle.litmus_reader.proofs.cell.read_cells.Given as goal

abbrev pub invariant-cells : goal.invariant-cells
invariant-cells l = record {
  same : cells_in l.set l.core l.instrs.items (texts l.names.items) (cells_after l.remaining)
      ≡ cells_in l.set 0 l.initial.instrs.items (texts l.initial.names.items) (cells_of (pieces l.row));
  bound : l.core + room_of l.remaining ≤ length l.row + 1;
}

abbrev pub decreases-cells : goal.decreases-cells
decreases-cells l = room_of l.remaining
