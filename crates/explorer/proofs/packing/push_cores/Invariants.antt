use Rattle.explorer.proofs.Vocabulary.{take, map, core_of_processor, Packs, core_bytes, all_bytes, read_core, read_all}
use Rattle.explorer.proofs.packing.push_cores.Given as goal

abbrev pub invariant-loop-core : goal.invariant-loop-core
invariant-loop-core l =
    Packs (all_bytes core_bytes) (read_all read_core l.core-index) (map core_of_processor (take l.core-index l.cores))
    l.initial.bytes.items l.bytes.items
