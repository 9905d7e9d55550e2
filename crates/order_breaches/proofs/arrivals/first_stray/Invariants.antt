use Rattle.order_breaches.proofs.Vocabulary.{◌≡◌, ◌≤◌, ◌+◌, IsStray, HasCome, NoneBefore}
use Rattle.order_breaches.proofs.arrivals.first_stray.Given as goal

-- the entries so far came, one look each, and none of them strays
abbrev pub invariant-loop-at : goal.invariant-loop-at
invariant-loop-at g l = record {
  order : l.order.order ≡ l.fn.order.order;
  looks : l.order.looks ≤ l.fn.order.looks + l.at;
  none : NoneBefore l.fn.order.order (IsStray l.shape l.fn.order.order) l.at;
  came : HasCome l.shape l.fn.order.order l.at l.came;
}
