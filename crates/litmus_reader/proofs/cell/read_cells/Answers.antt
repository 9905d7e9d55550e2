use Rattle.litmus_reader.proofs.Vocabulary.{◌≡◌, ◌≤◌, ◌+◌, length, ap, sym, ◌∙◌, arith, err_from_is_err_and, pieces, texts, cells_after, cells_in}
use Rattle.litmus_reader.proofs.Cells.{cells_go_on, cells_end, cells_done, room_of, less_room}
use Rattle.litmus_reader.proofs.cell.read_cells.Goals as goal

pub returns-in_err-read_cell : goal.returns-in_err-read_cell
returns-in_err-read_cell c =
    let so_far =
    sym (ap (λ remaining. cells_in c.args.set c.cells.core c.cells.instrs.items (texts c.cells.names.items) (cells_after remaining)) c.in-Some.is)
    ∙ c.cells.invariant.same in
    let p = err_from_is_err_and c.from_residual.result c.from_residual.ensures.1 in
    rw (p.1, p.2)
    (cells_end c.args.set c.in_err-read_cell.field-0.0 c.cells.core c.cells.instrs.items (texts c.cells.names.items)
    (pieces c.in-Some.cells.now) (pieces c.first_cell.result.0.now) (cells_after c.first_cell.result.1) _
    c.first_cell.ensures.cells c.in_err-read_cell.ensures so_far)

pub cells-preserved : goal.cells-preserved
cells-preserved c =
    let so_far =
    sym (ap (λ remaining. cells_in c.args.set c.cells.core c.cells.instrs.items (texts c.cells.names.items) (cells_after remaining)) c.in-Some.is)
    ∙ c.cells.invariant.same in
    let room : room_of c.cells.remaining ≡ length c.in-Some.cells.now + 1 = ap room_of c.in-Some.is in
    let less : room_of c.first_cell.result.1 ≤ length c.in-Some.cells.now = less_room c.first_cell.result.1 _ c.first_cell.ensures.shorter in
    record {
      same =
          cells_go_on c.args.set c.cells.core c.cells.instrs.items c.read_cell.new.instrs.items
          (texts c.cells.names.items) (texts c.read_cell.new.names.items) (pieces c.in-Some.cells.now)
          (pieces c.first_cell.result.0.now) (cells_after c.first_cell.result.1) _ c.first_cell.ensures.cells
          c.in_ok-read_cell.ensures so_far;
      bound = omega (arith, c.cells.invariant.bound, room, less);
    }

pub returns : goal.returns
returns c =
    let so_far =
    sym
    (ap (λ remaining. cells_in c.args.set c.cells.core c.cells.instrs.items (texts c.cells.names.items) (cells_after remaining)) c.in_default.is)
    ∙ c.cells.invariant.same in
    cells_done c.args.set c.cells.core c.cells.instrs.items (texts c.cells.names.items) _ so_far
