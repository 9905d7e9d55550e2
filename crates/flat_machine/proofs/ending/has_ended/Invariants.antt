use Rattle.flat_machine.proofs.Vocabulary.{◌≡◌, drop, map, all_done, core_of_processor}
use Rattle.flat_machine.proofs.ending.has_ended.Given as goal

abbrev pub invariant-loop-core : goal.invariant-loop-core
invariant-loop-core l =
    all_done l.test.programs (map core_of_processor l.snapshot.cores.items)
    ≡ all_done (drop l.core l.test.programs) (map core_of_processor (drop l.core l.snapshot.cores.items))
