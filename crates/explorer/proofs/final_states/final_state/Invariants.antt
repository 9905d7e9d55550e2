use Rattle.explorer.proofs.Vocabulary.{◌≡◌, drop, length, start, CoresExist, state_after, state_of_snapshot}
use Rattle.explorer.proofs.final_states.final_state.Given as goal

abbrev pub invariant-loop-choice : goal.invariant-loop-choice
invariant-loop-choice l = record {
  count : length l.state.cores.items ≡ length l.plan.test.now.programs;
  later : CoresExist (length l.plan.test.now.programs) (drop l.choice-index l.choice-items);
  state : state_after l.plan.test.now l.plan.depth (state_of_snapshot l.state) (drop l.choice-index l.choice-items)
      ≡ state_after l.plan.test.now l.plan.depth (start l.plan.test.now) l.choice-items;
}
