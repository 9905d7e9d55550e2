use Rattle.litmus_reader.proofs.Vocabulary.{◌+◌, ap, sym, ◌∙◌, take_all, Bar, piece_of, is_symbol, Token}
use Rattle.std.proofs.Common.{count_by}
use Rattle.std.proofs.lemmas.List.Sums.{count_by_more_yes, count_by_more_no}
use Rattle.litmus_reader.proofs.Cells.{cells_counted}
use Rattle.litmus_reader.proofs.row.cell_count.Goals as goal
use Rattle.litmus_reader.proofs.row.cell_count.Goals.{then-is_symbol, else-is_symbol}

pub loop-token-preserved : goal.loop-token-preserved
loop-token-preserved c = elim c.if-is_symbol.branch [
  | then-is_symbol w ↦
      w.bars-is ∙ ap (λ n. n + 1) c.loop-token.invariant
      ∙ sym (count_by_more_yes (λ (t : Token). is_symbol Bar (piece_of t)) c.args.row.now c.loop-token.token-index _
      c.loop-token-test.true (sym c.is_symbol.ensures ∙ w.if-is_symbol.true))
  | else-is_symbol w ↦
      w.bars-is ∙ c.loop-token.invariant
      ∙ sym (count_by_more_no (λ (t : Token). is_symbol Bar (piece_of t)) c.args.row.now c.loop-token.token-index _
      c.loop-token-test.true (sym c.is_symbol.ensures ∙ w.if-is_symbol.false))
]

pub returns : goal.returns
returns c =
    cells_counted c.args.row.now c.loop-token.bars
    (c.loop-token.invariant
    ∙ ap (count_by (λ (t : Token). is_symbol Bar (piece_of t))) (take_all c.loop-token.token-index c.args.row.now c.loop-token-test.false))
