use Rattle.explorer.proofs.Vocabulary.{◌≡◌, length, state_of_snapshot, AreAppended}
use Rattle.explorer.proofs.running_on.take_turn.Given as goal

abbrev pub invariant-loop-made : goal.invariant-loop-made
invariant-loop-made l = record {
  made : AreAppended l.depth l.test (state_of_snapshot l.fn.state) (state_of_snapshot l.state) l.fn.choices.items l.choices.items;
  cores : length l.state.cores.items ≡ length l.test.programs;
}
