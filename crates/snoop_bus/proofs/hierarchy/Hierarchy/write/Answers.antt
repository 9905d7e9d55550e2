use Rattle.snoop_bus.proofs.Vocabulary.{[], ap, ◌∙◌, get_or_default, with_word, Sets, in_set, with_changed, map}
use Rattle.snoop_bus.proofs.UseLemmas.{tags-written, ways-set_cache}
use Rattle.snoop_bus.proofs.hierarchy.Hierarchy.write.Goals as goal

pub returns-clause-tags : goal.returns-clause-tags
returns-clause-tags c =
    let at = c.index_mut-cache.ensures.value ∙ get_or_default c.args.self.now.caches.items c.args.target.core c.index_mut-cache.result.now [] c.requires.core in
    tags-written c.args.self.now.caches.items c.args.target.core c.args.target.line c.args.target.offset c.args.value c.write_word.new.self
    (c.write_word.ensures.exact
    ∙ ap (λ (sets : Sets). in_set c.args.target.line (with_changed (with_word c.args.target.offset c.args.value) c.args.target.line) sets) at)

pub returns-clause-ways : goal.returns-clause-ways
returns-clause-ways c =
    let at = c.index_mut-cache.ensures.value ∙ get_or_default c.args.self.now.caches.items c.args.target.core c.index_mut-cache.result.now [] c.requires.core in
    ways-set_cache c.args.self.now.caches.items c.args.target.core c.write_word.new.self
    (c.write_word.ensures.ways ∙ ap (λ (sets : Sets). map (λ s. s.ways) sets) at)
