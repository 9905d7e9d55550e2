use Rattle.snoop_bus.proofs.Vocabulary.{None, length, current_words}
use Rattle.snoop_bus.proofs.WordLemmas.{words-same}
use Rattle.snoop_bus.proofs.CallLemmas.{settled_words}
use Rattle.snoop_bus.proofs.HolderLemmas.{free-held}
use Rattle.snoop_bus.proofs.NewLemmas.{bus-kept}
use Rattle.snoop_bus.proofs.bus.SnoopBus.settle.Goals as goal

pub returns-clause-words : goal.returns-clause-words
returns-clause-words g c =
    let free = free-held c.self.inside.held (rw (← c.self.view_is) at c.requires.free) in
    let keeps = c.settle.ensures.words in
    rw (← c.self.view_is, free)
    (words-same c.self.inside.shape.words c.self.inside.locations (length c.self.inside.hierarchy.memory.items)
    (current_words c.self.inside.hierarchy.caches.items c.self.inside.hierarchy.memory.items)
    (current_words c.settle.new.self.caches.items c.settle.new.self.memory.items)
    c.self.invariant.some_word c.self.invariant.enough_lines keeps.words)

pub returns-clause-memory : goal.returns-clause-memory
returns-clause-memory g c =
    let free = free-held c.self.inside.held (rw (← c.self.view_is) at c.requires.free) in
    rw (← c.self.view_is, free)
    (settled_words c.self.inside.shape.words c.self.inside.locations c.self.inside.hierarchy.caches.items
    c.self.inside.hierarchy.memory.items c.settle.new.self.memory.items c.self.invariant.some_word
    c.self.invariant.enough_lines
    c.settle.ensures.memory)

pub invariant_of-self : goal.invariant_of-self
invariant_of-self g c =
    let free = free-held c.self.inside.held (rw (← c.self.view_is) at c.requires.free) in
    let keeps = c.settle.ensures.words in
    rw (free) (bus-kept c.self.inside.shape c.self.inside.locations c.self.inside.hierarchy c.settle.new.self None None
    (rw free at c.self.invariant) c.settle.ensures.size keeps keeps.ways tt tt)

pub returns-clause-coherent : goal.returns-clause-coherent
returns-clause-coherent g c =
    let free = free-held c.self.inside.held (rw (← c.self.view_is) at c.requires.free) in
    let keeps = c.settle.ensures.words in
    rw (free) keeps.coherent

pub settle-requires-clause-coherent : goal.settle-requires-clause-coherent
settle-requires-clause-coherent g c = rw (free-held c.self.inside.held (rw (← c.self.view_is) at c.requires.free)) at c.self.invariant.coherent

pub settle-requires-clause-few : goal.settle-requires-clause-few
settle-requires-clause-few g c = c.self.invariant.few_lines

pub returns-clause-contents : goal.returns-clause-contents
returns-clause-contents g c = rw (← c.self.view_is) c.settle.ensures.tags

pub returns-clause-free : goal.returns-clause-free
returns-clause-free g c = rw (← c.self.view_is) at c.requires.free
