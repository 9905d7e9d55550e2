use Rattle.explorer.proofs.Vocabulary.{◌≢◌, ◌<◌, ℕ, program_of, core_of, state_of_snapshot, IsHeldBack, has_step, has_drain, set_of}
use Rattle.explorer.proofs.stubborn.others_are_held_back.Given as goal

abbrev pub invariant-loop-other : goal.invariant-loop-other
invariant-loop-other l = (j : ℕ) → j < l.other → j ≢ l.core.0
    → IsHeldBack l.at.depth l.meeting.loads l.meeting.loc.0 (program_of l.at.test.now j)
    (core_of (state_of_snapshot l.at.state.now) j) (has_step (set_of l.picked) j) (has_drain (set_of l.picked) j)
