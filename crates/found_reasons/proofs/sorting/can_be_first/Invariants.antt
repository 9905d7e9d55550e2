use Rattle.found_reasons.proofs.Vocabulary.{◌≡◌, drop, edge_by, is_first}
use Rattle.found_reasons.proofs.sorting.can_be_first.Given as goal

abbrev pub invariant-loop-y : goal.invariant-loop-y
invariant-loop-y l =
    is_first (edge_by l.precedence) (drop l.y-index l.some) l.x
    ≡ is_first (edge_by l.precedence) l.some l.x
