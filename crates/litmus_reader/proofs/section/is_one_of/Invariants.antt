use Rattle.litmus_reader.proofs.Vocabulary.{◌≡◌, drop, piece_of, is_symbol}
use Rattle.std.specs.List.{list_any}
use Rattle.litmus_reader.proofs.section.is_one_of.Given as goal

abbrev pub invariant-loop-end : goal.invariant-loop-end
invariant-loop-end l = list_any (λ s. is_symbol s (piece_of l.token)) (drop l.end-index l.ends) ≡ list_any (λ s. is_symbol s (piece_of l.token)) l.ends
