use Rattle.found_reasons.proofs.Vocabulary.{◌≡◌, ◌++◌, not, length, drop, filter, edge_by, is_first, IsParted}
use Rattle.found_reasons.proofs.sorting.sort.Given as goal

abbrev pub invariant-loop-x : goal.invariant-loop-x
invariant-loop-x l = IsParted (edge_by l.precedence) l.some l.row.items l.rest.items

abbrev pub decreases-loop-x : goal.decreases-loop-x
decreases-loop-x l = length l.rest.items

-- those that were gone over, and those that are still to come
abbrev pub invariant-loop-x-2 : goal.invariant-loop-x-2
invariant-loop-x-2 l = record {
  row : l.initial.row.items ++ filter (is_first (edge_by l.precedence) l.x-items) l.x-items
      ≡ l.row.items ++ filter (is_first (edge_by l.precedence) l.x-items) (drop l.x-index l.x-items);
  left : filter (λ x. not (is_first (edge_by l.precedence) l.x-items x)) l.x-items
      ≡ l.left.items ++ filter (λ x. not (is_first (edge_by l.precedence) l.x-items x)) (drop l.x-index l.x-items);
}
