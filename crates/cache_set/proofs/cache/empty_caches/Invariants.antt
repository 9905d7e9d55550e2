use Rattle.cache_set.proofs.Vocabulary.{◌≡◌, [], replicate, contents}
use Rattle.cache_set.proofs.cache.empty_caches.Given as goal

abbrev pub invariant-loop : goal.invariant-loop
invariant-loop l = l.caches.items ≡ replicate l.counter (replicate l.shape.sets (contents [] l.shape.ways))
