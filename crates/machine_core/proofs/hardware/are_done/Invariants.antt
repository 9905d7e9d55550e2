use Rattle.machine_core.proofs.Vocabulary.{◌≡◌, drop, all_done, core_states}
use Rattle.machine_core.proofs.hardware.are_done.Given as goal

abbrev pub invariant-loop-core : goal.invariant-loop-core
invariant-loop-core g l =
    all_done l.test.programs (core_states 0 l.hardware.processors.items)
    ≡ all_done (drop l.core l.test.programs) (core_states l.core (drop l.core l.hardware.processors.items))
