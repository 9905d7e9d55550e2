use Rattle.axiom_checker.proofs.Vocabulary.{◌≡◌, ◌≤◌, ◌<◌, ◌+◌, Some, IfSome, length, slice_get, Litmus, made, HasMet}
use Rattle.order_breaches.proofs.Marking.{AreMarks, AreWords, of_core, past_loads}
use Rattle.axiom_checker.proofs.passing.pass.Given as goal

-- one look each, and one ahead; how far the cores have come, the words, and what was met among the entries so far
abbrev pub invariant-loop-at : goal.invariant-loop-at
invariant-loop-at g l = record {
  order : l.order.order ≡ l.fn.order.order;
  here : l.at < length l.fn.order.order → slice_get l.fn.order.order l.at ≡ Some l.x;
  looks : l.order.looks ≤ l.fn.order.looks + (l.at + 1);
  no_more : l.order.looks ≤ l.fn.order.looks + length l.fn.order.order;
  reached : AreMarks l.fn.order.order l.at of_core l.reached;
  settled : AreMarks l.fn.order.order l.at past_loads l.settled;
  words : AreWords l.fn.order.order l.at l.fn.words l.words;
  within : IfSome l.met.late (λ a. a.0 < length l.fn.order.order);
  met : (t : Litmus) → t.words ≡ l.fn.words → l.programs.made.now ≡ made t l.fn.order.order → HasMet t l.fn.order.order l.at l.met;
}
