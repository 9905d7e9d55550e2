use Rattle.litmus_reader.proofs.Vocabulary.{sym, ◌∙◌, arith, piece_of, is_symbol, Token}
use Rattle.litmus_tokens.proofs.Maps.{search_on, search_here, search_ends}
use Rattle.litmus_reader.proofs.Scans.{found_at, found_nowhere}
use Rattle.litmus_reader.proofs.cell.argument_of.Goals as goal

pub loop-at-init : goal.loop-at-init
loop-at-init c = omega arith

pub loop-at-preserved : goal.loop-at-preserved
loop-at-preserved c =
    search_on (λ (t : Token). is_symbol c.args.symbol (piece_of t)) c.args.tokens.now c.loop-at.at _ c.loop-at-test.true
    (sym c.is_symbol.ensures ∙ c.if-is_symbol.false)
    ∙ c.loop-at.invariant

pub returns-then-is_symbol : goal.returns-then-is_symbol
returns-then-is_symbol c =
    found_at (λ (t : Token). is_symbol c.args.symbol (piece_of t)) c.args.tokens.now c.loop-at.at _ c.loop-at-test.true c.loop-at.invariant
    (search_here (λ (t : Token). is_symbol c.args.symbol (piece_of t)) c.args.tokens.now c.loop-at.at _
    c.loop-at-test.true (sym c.is_symbol.ensures ∙ c.if-is_symbol.true))

pub returns : goal.returns
returns c =
    found_nowhere (λ (t : Token). is_symbol c.args.symbol (piece_of t)) c.args.tokens.now c.loop-at.at _ c.loop-at-test.false c.loop-at.invariant
    (search_ends (λ (t : Token). is_symbol c.args.symbol (piece_of t)) c.args.tokens.now c.loop-at.at c.loop-at-test.false c.loop-at.auto.at-end)
