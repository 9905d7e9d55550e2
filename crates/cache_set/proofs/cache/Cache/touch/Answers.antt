use Rattle.cache_set.proofs.Vocabulary.{◌≡◌, ◌<◌, ◌%◌, ap, length, Contents, to_front}
use Rattle.cache_set.proofs.WholeCache.{ways-set, set-in_set}
use Rattle.cache_set.proofs.cache.Cache.touch.Goals as goal

pub returns-clause-ways : goal.returns-clause-ways
returns-clause-ways c = rw (← c.self.view_is)
    (ways-set c.self.inside.sets.items _ c.index_mut-set.result.now c.touch.new.self c.index_mut-set.ensures.value
    (ap (λ (s : Contents). s.ways) c.touch.ensures.exact))

pub returns-clause-exact : goal.returns-clause-exact
returns-clause-exact c =
    let home : c.home-at.result ≡ c.args.line % length c.self.inside.sets.items = rw (← c.self.view_is) at c.home-at.ensures.value in
    let within : c.home-at.result < length c.self.inside.sets.items = rw (← c.self.view_is) at c.home-at.ensures.within in
    rw (← c.self.view_is)
    (set-in_set c.self.inside.sets.items c.args.line c.home-at.result c.index_mut-set.result.now c.touch.new.self
    (to_front c.args.line) home within c.index_mut-set.ensures.value c.touch.ensures.exact)
