use Rattle.explorer.proofs.Vocabulary.{◌≡◌, length, state_of_snapshot, IsSettled}
use Rattle.explorer.proofs.eager.run_ahead.Given as goal

abbrev pub invariant-loop-made : goal.invariant-loop-made
invariant-loop-made l = record {
  settled : IsSettled l.plan.depth l.plan.test.now (state_of_snapshot l.fn.state) (state_of_snapshot l.state) l.fn.choices.items l.choices.items;
  cores : length l.state.cores.items ≡ length l.plan.test.now.programs;
}
