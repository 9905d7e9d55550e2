use Rattle.cache_set.proofs.Vocabulary.{◌≡◌, ◌++◌, map, take, drop, emptied}
use Rattle.cache_set.proofs.cache.clear_caches.Given as goal

abbrev pub invariant-loop-core : goal.invariant-loop-core
invariant-loop-core l = l.caches ≡ map (map emptied) (take l.core l.initial.caches) ++ drop l.core l.initial.caches
