use Rattle.litmus_reader.proofs.Vocabulary.{sym, ◌∙◌, true, false, piece_of, is_symbol, Symbol}
use Rattle.litmus_reader.proofs.Scans.{any_on, any_ends}
use Rattle.litmus_reader.proofs.section.is_one_of.Goals as goal

pub loop-end-preserved : goal.loop-end-preserved
loop-end-preserved c =
    sym (any_on (λ (s : Symbol). is_symbol s (piece_of c.args.token.now)) c.args.ends.now c.loop-end.end-index _ false
    c.loop-end-test.true (sym c.is_symbol.ensures ∙ c.if-is_symbol.false))
    ∙ c.loop-end.invariant

pub returns-then-is_symbol : goal.returns-then-is_symbol
returns-then-is_symbol c =
    sym (any_on (λ (s : Symbol). is_symbol s (piece_of c.args.token.now)) c.args.ends.now c.loop-end.end-index _ true
    c.loop-end-test.true (sym c.is_symbol.ensures ∙ c.if-is_symbol.true))
    ∙ c.loop-end.invariant

pub returns : goal.returns
returns c =
    sym (any_ends (λ (s : Symbol). is_symbol s (piece_of c.args.token.now)) c.args.ends.now c.loop-end.end-index
    c.loop-end-test.false c.loop-end.auto.end-index-end)
    ∙ c.loop-end.invariant
