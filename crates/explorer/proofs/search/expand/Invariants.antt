use Rattle.explorer.proofs.Vocabulary.{◌≡◌, ◌<◌, ℕ, state_of_snapshot, Grows, ArePicksVisited, IsInOrder, set_of}
use Rattle.explorer.proofs.search.expand.Given as goal

abbrev pub invariant-loop-core : goal.invariant-loop-core
invariant-loop-core l = record {
  grows : Grows l.fn.found.states.keys l.found.states.keys;
  found : IsInOrder l.plan l.found;
  current : l.found.current ≡ l.initial.found.current;
  visited : (k : ℕ) → k < l.core
      → ArePicksVisited l.plan.depth l.plan.test.now l.plan.hidden.now l.plan.alike.items l.found.states.keys
      (state_of_snapshot l.initial.found.current) (set_of l.picked) k;
}
