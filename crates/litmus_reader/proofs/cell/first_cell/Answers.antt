use Rattle.litmus_reader.proofs.Cells.{first_cut, no_cut}
use Rattle.litmus_reader.proofs.cell.first_cell.Goals as goal

pub returns-in-Some-clause-cells : goal.returns-in-Some-clause-cells
returns-in-Some-clause-cells c = first_cut c.args.row.now c.in-Some.bar c.in-Some.ensures

pub returns-in-None : goal.returns-in-None
returns-in-None c = record { cells = no_cut c.args.row.now c.in-None.ensures; shorter = tt }
