use Rattle.flat_machine.proofs.Vocabulary.{◌≡◌, length, has_ended, CoresExist, state_of_snapshot}
use Rattle.flat_machine.proofs.Onward.{IsOnItsWay}
use Rattle.flat_machine.proofs.driving.drive.Given as goal

-- the whole run is what was done so far and the run from here on
abbrev pub invariant-loop-ended : goal.invariant-loop-ended
invariant-loop-ended g l = record {
  cores : length l.state.cores.items ≡ length l.test.programs;
  words : length l.state.memory.items ≡ length l.initial.state.memory.items;
  chosen : CoresExist (length l.test.programs) (g.C.Choices.coming l.choices);
  over : l.ended ≡ has_ended l.test (state_of_snapshot l.state);
  on_its_way : IsOnItsWay l.test l.fn.depth (state_of_snapshot l.initial.state) (g.C.Choices.coming l.initial.choices)
      (state_of_snapshot l.state) (g.C.Choices.coming l.choices);
}

abbrev pub decreases-loop-ended : goal.decreases-loop-ended
decreases-loop-ended g l = length (g.C.Choices.coming l.choices)
