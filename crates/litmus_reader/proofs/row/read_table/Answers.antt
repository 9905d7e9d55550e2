use Rattle.litmus_reader.proofs.Vocabulary.{refl, piece_of, length-map, arith, ◌∙◌, sym, ap, map, Result, ◌>>=◌, Fault, Ok, Rows}
use Rattle.litmus_reader.proofs.Vocabulary.{err_from_is_err_and, pieces, texts, given_of, section, table, tokens_in, stop_of}
use Rattle.litmus_reader.proofs.RowSteps.{rows_start, rows_end, rows_go_on, row_fails, row_some, table_is, table_fails, registers_missing, columns_missing}
use Rattle.litmus_reader.proofs.row.read_table.Goals as goal

pub returns-in_err-cores-clause-value : goal.returns-in_err-cores-clause-value
returns-in_err-cores-clause-value c =
    let p = err_from_is_err_and c.from_residual-in_err-cores.result c.from_residual-in_err-cores.ensures.1 in
    rw (p.1, p.2) (columns_missing c.args.set c.in_err-cores.field-0.0 (stop_of c.args.set c.args.text.now)
    (map given_of c.args.given.now) (texts c.args.names.now.items) (tokens_in c.args.set c.args.text.now)
    (section (pieces c.read_row_tokens.new.tokens.items) c.in_ok-header.header.stop (tokens_in c.args.set c.in_ok-header.header.rest.now))
    c.in_ok-header.ensures.value.is
    (rw c.as_slice.ensures.value at c.in_err-cores.ensures.value))

pub returns-in_err-registers-clause-value : goal.returns-in_err-registers-clause-value
returns-in_err-registers-clause-value c =
    let p = err_from_is_err_and c.from_residual-in_err-registers.result c.from_residual-in_err-registers.ensures.1 in
    rw (p.1, p.2) (registers_missing c.args.set c.in_err-registers.field-0.0 (stop_of c.args.set c.args.text.now)
    (map given_of c.args.given.now) (texts c.args.names.now.items) (tokens_in c.args.set c.args.text.now)
    (section (pieces c.read_row_tokens.new.tokens.items) c.in_ok-header.header.stop (tokens_in c.args.set c.in_ok-header.header.rest.now))
    c.in_ok-cores.cores c.in_ok-header.ensures.value.is (rw c.as_slice.ensures.value at c.in_ok-cores.ensures.value)
    c.in_err-registers.ensures)

pub rows-init : goal.rows-init
rows-init c = record {
  rows =
      rw c.requires
      (rows_start c.args.set (stop_of c.args.set c.args.text.now) c.in_ok-cores.cores (texts c.args.names.now.items)
      (tokens_in c.args.set c.in_ok-header.header.rest.now));
  stop_kept = sym c.in_ok-header.ensures.value.stop_kept;
  cores_kept = refl;
  registers_kept = refl;
}

pub returns-in_err-read_row-clause-value : goal.returns-in_err-read_row-clause-value
returns-in_err-read_row-clause-value c =
    let p = err_from_is_err_and c.from_residual-in_err-read_row.result c.from_residual-in_err-read_row.ensures.1 in
    let stop = stop_of c.args.set c.args.text.now in
    rw (p.1, p.2) (table_fails c.args.set c.in_err-read_row.field-0.0 stop (map given_of c.args.given.now)
    (texts c.args.names.now.items) (tokens_in c.args.set c.args.text.now)
    (section (pieces c.read_row_tokens.new.tokens.items) c.in_ok-header.header.stop (tokens_in c.args.set c.in_ok-header.header.rest.now))
    c.in_ok-cores.cores c.in_ok-registers.registers.items
    c.in_ok-header.ensures.value.is (rw c.as_slice.ensures.value at c.in_ok-cores.ensures.value) c.in_ok-registers.ensures
    (row_fails c.args.set c.in_err-read_row.field-0.0 stop c.in_ok-cores.cores c.rows.table.instrs.items
    (texts c.rows.names.items) (tokens_in c.args.set c.rows.rest.now)
    (section (pieces c.read_row_tokens-in-rows.new.tokens.items) c.in_ok-onward.onward.stop (tokens_in c.args.set c.in_ok-onward.onward.rest.now)) _
    (sym c.ends_rows.ensures ∙ c.rows-test.true)
    (rw c.rows.invariant.stop_kept at c.in_ok-onward.ensures.value.is)
    (rw c.as_slice-in-rows.ensures.value at c.in_err-read_row.ensures) c.rows.invariant.rows))

pub rows-smaller : goal.rows-smaller
rows-smaller c =
    let some =
    row_some c.args.set c.in_ok-cores.cores c.in_ok-onward.onward.stop c.rows.table.instrs.items
    (texts c.rows.names.items) (pieces c.read_row_tokens-in-rows.new.tokens.items) _
    (rw c.as_slice-in-rows.ensures.value at c.in_ok-read_row.ensures) in
    c.in_ok-onward.ensures.shorter (omega (arith, some, length-map c.read_row_tokens-in-rows.new.tokens.items piece_of))

pub rows-preserved : goal.rows-preserved
rows-preserved c = record {
  rows =
      rows_go_on c.args.set (stop_of c.args.set c.args.text.now) c.in_ok-cores.cores c.rows.table.instrs.items
      c.read_row.new.instrs.items (texts c.rows.names.items) (texts c.read_row.new.names.items)
      (tokens_in c.args.set c.rows.rest.now)
      (section (pieces c.read_row_tokens-in-rows.new.tokens.items) c.in_ok-onward.onward.stop (tokens_in c.args.set c.in_ok-onward.onward.rest.now)) _
      (sym c.ends_rows.ensures ∙ c.rows-test.true)
      (rw c.rows.invariant.stop_kept at c.in_ok-onward.ensures.value.is)
      (rw c.as_slice-in-rows.ensures.value at c.in_ok-read_row.ensures) c.rows.invariant.rows;
  stop_kept = sym c.in_ok-onward.ensures.value.stop_kept ∙ c.rows.invariant.stop_kept;
  cores_kept = c.rows.invariant.cores_kept;
  registers_kept = c.rows.invariant.registers_kept;
}

pub returns-clause-value : goal.returns-clause-value
returns-clause-value c =
    rw (c.rows.invariant.cores_kept, c.rows.invariant.registers_kept)
    (table_is c.args.set (stop_of c.args.set c.args.text.now) (map given_of c.args.given.now)
    (texts c.args.names.now.items) (tokens_in c.args.set c.args.text.now)
    (section (pieces c.read_row_tokens.new.tokens.items) c.in_ok-header.header.stop (tokens_in c.args.set c.in_ok-header.header.rest.now))
    c.in_ok-cores.cores c.in_ok-registers.registers.items
    c.in_ok-header.ensures.value.is (rw c.as_slice.ensures.value at c.in_ok-cores.ensures.value) c.in_ok-registers.ensures
    ∙ ap (λ (r : Result Rows Fault). r >>= λ rows. Ok (table c.in_ok-cores.cores c.in_ok-registers.registers.items rows))
    (rows_end c.args.set (stop_of c.args.set c.args.text.now) c.in_ok-cores.cores c.rows.table.instrs.items
    (texts c.rows.names.items) (tokens_in c.args.set c.rows.rest.now) _ (sym c.ends_rows.ensures ∙ c.rows-test.false)
    c.rows.invariant.rows))
