use Rattle.snoop_bus.proofs.Vocabulary.{◌<◌, length, [], refl, ap, ◌∙◌, get_or_default, cache_of, copy_at, tags_of, current_words, Load, Write, Some, GetS}
use Rattle.snoop_bus.proofs.MemoryLemmas.{length-asked}
use Rattle.snoop_bus.proofs.UpgradeAsk.{load_ask-exact, load_ask-tags, load_ask-awaits, now_held}
use Rattle.snoop_bus.proofs.hierarchy.Hierarchy.ask.Goals as goal

pub returns-then-write-clause-awaited : goal.returns-then-write-clause-awaited
returns-then-write-clause-awaited g c =
    let here =
    (rw c.from-at.ensures at c.index.ensures)
    ∙ get_or_default c.args.self.now.caches.items c.args.wanted.core.0 c.index.result.now [] c.requires.ready.core_in in
    let some : 0 < length (cache_of c.args.self.now.caches.items c.args.wanted.core.0) = rw here at c.know_sets.ensures.some in
    rw (c.held_at.ensures, c.ask_write-transaction.ensures.memory)
    (now_held c.args.self.now.caches.items c.ask_write-transaction.new.self.caches.items c.args.self.now.memory.items
    c.args.self.now.memory.items c.args.wanted.core c.args.wanted.loc Write c.args.wanted.line
    c.ask_write-transaction.result
    c.ask_write-transaction.ensures.ways c.requires.ready.core_in some c.requires.ready.line_in refl
    (rw c.from-at.ensures at c.ask_write-transaction.ensures.awaits))

pub returns-else-write-clause-exact : goal.returns-else-write-clause-exact
returns-else-write-clause-exact g c =
    rw c.held_at-else-write.ensures
    (load_ask-exact (g.P.Protocol.table c.args.protocol.now) c.args.self.now.caches.items c.args.self.now.memory.items
    c.args.wanted.core c.args.wanted.loc c.args.wanted.line c.args.wanted.write c.ask_load.result c.if-write.false
    (c.requires.misses c.if-write.false) c.ask_load.ensures.transaction)

pub returns-else-write-clause-tags : goal.returns-else-write-clause-tags
returns-else-write-clause-tags g c =
    load_ask-tags (g.P.Protocol.table c.args.protocol.now) c.args.self.now.caches.items c.args.wanted.core.0
    c.args.wanted.line c.args.wanted.write (tags_of c.ask_load.new.self.caches.items) c.if-write.false
    (c.requires.misses c.if-write.false) (rw c.from-at.ensures at c.ask_load.ensures.tags)

pub returns-else-write-clause-awaited : goal.returns-else-write-clause-awaited
returns-else-write-clause-awaited g c =
    let here =
    (rw c.from-at.ensures at c.index.ensures)
    ∙ get_or_default c.args.self.now.caches.items c.args.wanted.core.0 c.index.result.now [] c.requires.ready.core_in in
    let some : 0 < length (cache_of c.args.self.now.caches.items c.args.wanted.core.0) = rw here at c.know_sets.ensures.some in
    rw c.held_at-else-write.ensures
    (now_held c.args.self.now.caches.items c.ask_load.new.self.caches.items c.args.self.now.memory.items
    c.ask_load.new.self.memory.items c.args.wanted.core c.args.wanted.loc Load c.args.wanted.line
    (Some c.ask_load.result)
    c.ask_load.ensures.ways c.requires.ready.core_in some c.requires.ready.line_in
    (ap length c.ask_load.ensures.memory
    ∙ length-asked (g.P.Protocol.table c.args.protocol.now) GetS c.args.wanted.line c.args.self.now.caches.items c.args.self.now.memory.items)
    (load_ask-awaits (g.P.Protocol.table c.args.protocol.now) c.args.wanted.line
    (current_words c.args.self.now.caches.items c.args.self.now.memory.items c.args.wanted.line)
    (tags_of c.args.self.now.caches.items)
    (copy_at c.ask_load.new.self.caches.items c.args.wanted.core.0 c.args.wanted.line) c.ask_load.result
    c.ask_load.ensures.transaction (rw c.from-at.ensures at c.ask_load.ensures.own)))

pub ask_write-transaction-requires : goal.ask_write-transaction-requires
ask_write-transaction-requires g c =
    let within : c.from-at.result < length c.args.self.now.caches.items = rw c.from-at.ensures c.requires.ready.core_in in
    let here = c.index.ensures ∙ get_or_default c.args.self.now.caches.items c.from-at.result c.index.result.now [] within in
    record { ready = rw c.from-at.ensures c.requires.ready; some_set = rw here at c.know_sets.ensures.some }

pub ask_load-requires-clause-some_set : goal.ask_load-requires-clause-some_set
ask_load-requires-clause-some_set g c =
    let within : c.from-at.result < length c.args.self.now.caches.items = rw c.from-at.ensures c.requires.ready.core_in in
    let here = c.index.ensures ∙ get_or_default c.args.self.now.caches.items c.from-at.result c.index.result.now [] within in
    rw here at c.know_sets.ensures.some
