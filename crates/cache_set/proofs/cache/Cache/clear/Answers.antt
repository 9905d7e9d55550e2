use Rattle.cache_set.proofs.Vocabulary.{◌≡◌, ◌≤◌, ◌∙◌, length, map, arith, rules, take_all, drop_all, append-nil, map_over_more, emptied}
use Rattle.cache_set.proofs.WholeCache.{home-emptied}
use Rattle.cache_set.proofs.cache.Cache.clear.Goals as goal

pub loop-at-preserved : goal.loop-at-preserved
loop-at-preserved c = search (rules, map_over_more emptied)

pub invariant_of-self : goal.invariant_of-self
invariant_of-self c =
    let all : length c.self.inside.sets.items ≤ c.loop-at.at = omega arith in
    let cleared : c.loop-at.self-inside.sets.items ≡ map emptied c.self.inside.sets.items =
    c.loop-at.invariant
    ∙ rw (take_all c.loop-at.at c.self.inside.sets.items all, drop_all c.loop-at.at c.self.inside.sets.items all)
    (append-nil (map emptied c.self.inside.sets.items)) in
    rw cleared (home-emptied c.self.inside.sets.items c.self.invariant.0)
