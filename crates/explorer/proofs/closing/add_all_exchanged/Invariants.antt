use Rattle.explorer.proofs.Vocabulary.{◌≡◌, ◌<◌, ℕ, Some, slice_get, map, IsAmongStates, exchanged, state_of_packed, state_of_snapshot, Grows, IsInOrder}
use Rattle.explorer.proofs.closing.add_all_exchanged.Given as goal

abbrev pub invariant-loop-at : goal.invariant-loop-at
invariant-loop-at l = record {
  grows : Grows l.fn.found.states.keys l.found.states.keys;
  found : IsInOrder l.plan l.found;
  current : l.found.current ≡ l.initial.found.current;
  exchanged : (i : ℕ) (pair : ℕ × ℕ) → i < l.at → slice_get l.plan.alike.items i ≡ Some pair
      → IsAmongStates (map state_of_packed l.found.states.keys) (exchanged pair (state_of_snapshot l.initial.found.current));
}
