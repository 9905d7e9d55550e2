use Rattle.cache_set.proofs.Vocabulary.{rules, map, take_all, drop_all, map_over_more, emptied}
use Rattle.cache_set.proofs.cache.clear_caches.Goals as goal

pub loop-core-preserved : goal.loop-core-preserved
loop-core-preserved c = search (rules, map_over_more (map emptied))

pub returns : goal.returns
returns c = search (rules, take_all, drop_all)
