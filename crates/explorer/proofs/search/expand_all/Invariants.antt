use Rattle.explorer.proofs.Vocabulary.{◌≡◌, ◌<◌, ℕ, Some, slice_get, map, start, IsCovered, IsExpandedEnough, state_of_packed, IsInOrder, Packed}
use Rattle.explorer.proofs.search.expand_all.Given as goal

abbrev pub invariant-loop-at : goal.invariant-loop-at
invariant-loop-at g l = record {
  found : IsInOrder l.plan l.found;
  first : IsCovered l.plan.depth l.plan.test.now l.plan.hidden.now l.plan.alike.items (map state_of_packed l.found.states.keys) (start l.plan.test.now);
  each : (i : ℕ) (x : Packed) → i < l.at → slice_get l.found.states.keys i ≡ Some x
      → IsExpandedEnough l.plan.depth l.plan.test.now l.plan.hidden.now l.plan.alike.items (map state_of_packed l.found.states.keys) (state_of_packed x);
}
