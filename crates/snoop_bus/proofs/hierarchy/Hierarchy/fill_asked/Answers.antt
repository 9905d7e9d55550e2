use Rattle.snoop_bus.proofs.Vocabulary.{[], refl, ap, ◌∙◌, get_or_default, Sets, copy_in, tags_of, victim_at}
use Rattle.snoop_bus.proofs.FillCalls.{filled_own, written_victim}
use Rattle.snoop_bus.proofs.AccessLemmas.{left_is, written_is}
use Rattle.snoop_bus.proofs.UseLemmas.{tags-filled, ways-set_cache}
use Rattle.snoop_bus.proofs.CompleteLemmas.{fill-words, counted-valid, victim_within}
use Rattle.snoop_bus.proofs.hierarchy.Hierarchy.fill_asked.Goals as goal

pub fill-victim-requires-clause-valid : goal.fill-victim-requires-clause-valid
fill-victim-requires-clause-valid g c =
    counted-valid c.args.self.now.caches.items c.args.self.now.memory.items c.args.core c.args.line
    c.args.transaction.copy c.requires.coherent c.requires.core c.requires.some_set c.requires.line

pub write_back-left-requires : goal.write_back-left-requires
write_back-left-requires g c =
    let here = c.index_mut-cache.ensures.value ∙ get_or_default c.args.self.now.caches.items c.args.core c.index_mut-cache.result.now [] c.requires.core in
    victim_within c.args.self.now.caches.items c.args.self.now.memory.items c.args.core c.args.line
    c.args.transaction.copy c.fill-victim.result c.requires.coherent c.requires.core c.requires.some_set c.requires.line
    (rw here at c.fill-victim.ensures.was_here)

pub returns-clause-report : goal.returns-clause-report
returns-clause-report g c =
    let here = c.index_mut-cache.ensures.value ∙ get_or_default c.args.self.now.caches.items c.args.core c.index_mut-cache.result.now [] c.requires.core in
    let t = g.P.Protocol.table c.args.protocol.now in
    let left =
    left_is t c.args.self.now.caches.items c.args.core c.args.line c.fill-victim.result c.write_back-left.result
    c.write_back-left.ensures.left (rw here at c.fill-victim.ensures.victim) in
    rw (c.was_written_back.ensures, left, written_is t c.args.core c.args.line (tags_of c.args.self.now.caches.items)) refl

pub returns-clause-tags : goal.returns-clause-tags
returns-clause-tags g c =
    let here = c.index_mut-cache.ensures.value ∙ get_or_default c.args.self.now.caches.items c.args.core c.index_mut-cache.result.now [] c.requires.core in
    rw c.write_back-left.ensures.caches
    (tags-filled c.args.self.now.caches.items c.args.core c.args.line c.args.transaction.copy.words
    c.args.transaction.copy.state c.fill-victim.new.self (rw here at c.fill-victim.ensures.exact))

pub returns-clause-ways : goal.returns-clause-ways
returns-clause-ways g c =
    let here = c.index_mut-cache.ensures.value ∙ get_or_default c.args.self.now.caches.items c.args.core c.index_mut-cache.result.now [] c.requires.core in
    rw c.write_back-left.ensures.caches
    (ways-set_cache c.args.self.now.caches.items c.args.core c.fill-victim.new.self (rw here at c.fill-victim.ensures.ways))

pub returns-clause-words : goal.returns-clause-words
returns-clause-words g c =
    let here = c.index_mut-cache.ensures.value ∙ get_or_default c.args.self.now.caches.items c.args.core c.index_mut-cache.result.now [] c.requires.core in
    rw c.write_back-left.ensures.caches
    (fill-words (g.P.Protocol.table c.args.protocol.now) (g.met.P.Protocol.writes_back_dirty c.args.protocol.now)
    c.args.self.now.caches.items c.args.self.now.memory.items c.write_back-left.new.self.memory.items c.args.core
    c.args.line c.args.transaction.copy c.fill-victim.result c.fill-victim.new.self
    (record {
      coherent = c.requires.coherent;
      core_in = c.requires.core;
      some_set = c.requires.some_set;
      absent = c.requires.absent;
      own_ways = rw here at c.fill-victim.ensures.ways;
      filled = rw here at c.fill-victim.ensures.copies;
      was_here = rw here at c.fill-victim.ensures.was_here;
      memory = c.write_back-left.ensures.memory;
    }))

pub fill-victim-requires-clause-absent : goal.fill-victim-requires-clause-absent
fill-victim-requires-clause-absent g c =
    let here = c.index_mut-cache.ensures.value ∙ get_or_default c.args.self.now.caches.items c.args.core c.index_mut-cache.result.now [] c.requires.core in
    ap (λ (sets : Sets). copy_in sets c.args.line) here ∙ c.requires.absent

pub returns-clause-memory : goal.returns-clause-memory
returns-clause-memory g c =
    let here = c.index_mut-cache.ensures.value ∙ get_or_default c.args.self.now.caches.items c.args.core c.index_mut-cache.result.now [] c.requires.core in
    written_victim (g.P.Protocol.table c.args.protocol.now) c.fill-victim.result
    (victim_at c.args.self.now.caches.items c.args.core c.args.line) c.args.self.now.memory.items
    c.write_back-left.new.self.memory.items c.write_back-left.ensures.memory
    (rw here at c.fill-victim.ensures.victim)

pub returns-clause-own : goal.returns-clause-own
returns-clause-own g c =
    let here = c.index_mut-cache.ensures.value ∙ get_or_default c.args.self.now.caches.items c.args.core c.index_mut-cache.result.now [] c.requires.core in
    rw c.write_back-left.ensures.caches
    (filled_own c.args.self.now.caches.items c.args.core c.args.line c.args.transaction.copy c.fill-victim.result
    c.fill-victim.new.self c.requires.core (rw here at c.fill-victim.ensures.copies))
