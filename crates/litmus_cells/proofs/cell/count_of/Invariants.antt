use Rattle.std.proofs.Common.{◌≡◌, take}
use Rattle.litmus_cells.specs.Cells.{count_of}
use Rattle.litmus_cells.proofs.cell.count_of.Given as goal

abbrev pub invariant-loop-i : goal.invariant-loop-i
invariant-loop-i l = l.count ≡ count_of l.core (take l.i-index l.instrs)
