use Rattle.cache_set.proofs.Vocabulary.{◌≡◌, [], replicate, contents}
use Rattle.cache_set.proofs.cache.Cache.new.Given as goal

abbrev pub invariant-loop : goal.invariant-loop
invariant-loop l = l.sets.items ≡ replicate l.counter (contents [] l.shape.ways)
