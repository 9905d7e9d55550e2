use Rattle.litmus_reader.proofs.Vocabulary.{◌≡◌, ◌+◌, drop, position_or_len, piece_of, is_symbol}
use Rattle.litmus_reader.proofs.cell.argument_of.Given as goal

abbrev pub invariant-loop-at : goal.invariant-loop-at
invariant-loop-at l =
    l.at + position_or_len (λ t. is_symbol l.symbol (piece_of t)) (drop l.at l.tokens)
    ≡ position_or_len (λ t. is_symbol l.symbol (piece_of t)) l.tokens
