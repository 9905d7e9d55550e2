use Rattle.machine_runs.proofs.Vocabulary.{◌≡◌, ◌≤◌, ◌+◌, length, has_ended, CoresExist}
use Rattle.machine_runs.proofs.DriveLemmas.{SoFar, WatchedSoFar}
use Rattle.machine_runs.proofs.driving.drive_machine.Given as goal

-- the whole run is what was done so far and the run from here on
abbrev pub invariant-loop-ended : goal.invariant-loop-ended
invariant-loop-ended g l = record {
  left : l.used + length (g.C.Choices.coming l.choices) ≡ length (g.C.Choices.coming l.initial.choices);
  cores : CoresExist (length l.initial.machine.test.programs) (g.C.Choices.coming l.choices);
  fewer : l.stalled ≤ l.used;
  over : l.ended ≡ has_ended l.machine.test l.machine.state.flat;
  so_far : SoFar l.initial.machine l.machine (g.C.Choices.coming l.initial.choices) (g.C.Choices.coming l.choices) l.used l.stalled;
  watches : g.O.Observer.watches l.observer l.machine;
  watched : WatchedSoFar g.O.Observer.makes l.initial.observer l.observer l.initial.machine l.machine
      (g.C.Choices.coming l.initial.choices) (g.C.Choices.coming l.choices) l.used;
}

abbrev pub decreases-loop-ended : goal.decreases-loop-ended
decreases-loop-ended g l = length (g.C.Choices.coming l.choices)
