use Rattle.cache_set.proofs.Vocabulary.{◌≡◌, ◌++◌, map, take, drop, emptied}
use Rattle.cache_set.proofs.cache.Cache.clear.Given as goal

abbrev pub invariant-loop-at : goal.invariant-loop-at
invariant-loop-at l = l.self-inside.sets.items ≡ map emptied (take l.at l.initial.self-inside.sets.items) ++ drop l.at l.initial.self-inside.sets.items
