use Rattle.order_breaches.proofs.Vocabulary.{◌≡◌, ◌≤◌, ◌<◌, ◌+◌, ℕ, Some, false, slice_get, Entry, must_stand_before}
use Rattle.order_breaches.proofs.met.first_overtaking.Given as goal

-- one look each, and none of the entries so far overtook
abbrev pub invariant-loop-j : goal.invariant-loop-j
invariant-loop-j g l = record {
  order : l.order.order ≡ l.fn.order.order;
  looks : l.order.looks ≤ l.fn.order.looks + l.j;
  none : (k : ℕ) (y : Entry) → k < l.j → slice_get l.fn.order.order k ≡ Some y → must_stand_before l.a y ≡ false;
}
