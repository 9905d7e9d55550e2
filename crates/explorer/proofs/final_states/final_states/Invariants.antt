use Rattle.explorer.proofs.Vocabulary.{◌≡◌, length, AreFinalsOf}
use Rattle.explorer.proofs.final_states.final_states.Given as goal

abbrev pub invariant-loop-at : goal.invariant-loop-at
invariant-loop-at l = record {
  finals : AreFinalsOf l.plan.depth l.plan.test.now l.plan.hidden.now l.found.states.keys l.at l.final_states.items;
  cores : length l.state.cores.items ≡ length l.plan.test.now.programs;
}
