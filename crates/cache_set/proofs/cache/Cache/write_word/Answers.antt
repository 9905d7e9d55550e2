use Rattle.cache_set.proofs.Vocabulary.{◌≡◌, ◌<◌, ◌%◌, ap, length, Contents, with_changed, with_word}
use Rattle.cache_set.proofs.WholeCache.{ways-set, set-in_set}
use Rattle.cache_set.proofs.cache.Cache.write_word.Goals as goal

pub returns-clause-ways : goal.returns-clause-ways
returns-clause-ways c = rw (← c.self.view_is)
    (ways-set c.self.inside.sets.items _ c.index_mut-set.result.now c.write_word.new.self c.index_mut-set.ensures.value
    (ap (λ (s : Contents). s.ways) c.write_word.ensures.exact))

pub returns-clause-exact : goal.returns-clause-exact
returns-clause-exact c =
    let home : c.home-at.result ≡ c.args.line % length c.self.inside.sets.items = rw (← c.self.view_is) at c.home-at.ensures.value in
    let within : c.home-at.result < length c.self.inside.sets.items = rw (← c.self.view_is) at c.home-at.ensures.within in
    rw (← c.self.view_is) (set-in_set c.self.inside.sets.items c.args.line c.home-at.result c.index_mut-set.result.now
    c.write_word.new.self
    (with_changed (with_word c.args.offset c.args.value) c.args.line) home within c.index_mut-set.ensures.value
    c.write_word.ensures.exact)
