use Rattle.explorer.proofs.Vocabulary.{AreExchanged, Grows, IsInOrder}
use Rattle.explorer.proofs.closing.close.Given as goal

abbrev pub invariant-loop-at : goal.invariant-loop-at
invariant-loop-at l = record {
  grows : Grows l.fn.found.states.keys l.found.states.keys;
  found : IsInOrder l.plan l.found;
  exchanged : AreExchanged l.plan.test.now l.plan.alike.items l.found.states.keys l.at;
}
