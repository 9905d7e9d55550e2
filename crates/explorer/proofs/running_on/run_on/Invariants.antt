use Rattle.explorer.proofs.Vocabulary.{◌≡◌, ◌≤◌, length, Grows, IsInOrder}
use Rattle.explorer.proofs.running_on.run_on.Given as goal

abbrev pub invariant-loop-number : goal.invariant-loop-number
invariant-loop-number l = record {
  grows : Grows l.fn.found.states.keys l.found.states.keys;
  found : IsInOrder l.plan l.found;
}
