use Rattle.snoop_bus.proofs.Vocabulary.{[], map, ap, ◌∙◌, get_or_default, to_front, Sets, in_set}
use Rattle.snoop_bus.proofs.UseLemmas.{tags-used-some, ways-set_cache}
use Rattle.snoop_bus.proofs.hierarchy.Hierarchy.enter.Goals as goal

pub returns-clause-tags : goal.returns-clause-tags
returns-clause-tags c =
    let at = c.index_mut-cache.ensures.value ∙ get_or_default c.args.self.now.caches.items c.args.core c.index_mut-cache.result.now [] c.requires.core in
    tags-used-some c.args.self.now.caches.items c.args.core c.args.line c.args.state c.touch.new.self c.set_state.new.self c.requires.present
    (c.touch.ensures.exact ∙ ap (λ (sets : Sets). in_set c.args.line (to_front c.args.line) sets) at) c.touch.ensures.valid c.set_state.ensures.exact

pub returns-clause-ways : goal.returns-clause-ways
returns-clause-ways c =
    let at = c.index_mut-cache.ensures.value ∙ get_or_default c.args.self.now.caches.items c.args.core c.index_mut-cache.result.now [] c.requires.core in
    ways-set_cache c.args.self.now.caches.items c.args.core c.set_state.new.self
    (c.set_state.ensures.ways ∙ c.touch.ensures.ways ∙ ap (λ (sets : Sets). map (λ s. s.ways) sets) at)
