use Rattle.cache_set.proofs.Vocabulary.{ap, Contents}
use Rattle.cache_set.proofs.WholeCache.{ways-set}
use Rattle.cache_set.proofs.cache.Cache.fill.Goals as goal

pub returns-clause-ways : goal.returns-clause-ways
returns-clause-ways c = rw (← c.self.view_is)
    (ways-set c.self.inside.sets.items _ c.index_mut-set.result.now c.fill.new.self c.index_mut-set.ensures.value
    (ap (λ (s : Contents). s.ways) (rw c.unwrap.ensures at c.fill.ensures.exact)))

pub unwrap-requires : goal.unwrap-requires
unwrap-requires c = c.fill.ensures.succeeds
