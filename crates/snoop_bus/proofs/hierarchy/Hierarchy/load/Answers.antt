use Rattle.snoop_bus.proofs.Vocabulary.{◌≡◌, ◌<◌, false, Some, None, [], length, ap, refl, ◌∙◌, get_or_default, GetS, cache_of, copy_at}
use Rattle.snoop_bus.proofs.Vocabulary.{tags_of, current_words, option_copied}
use Rattle.snoop_bus.proofs.AcquireCalls.{own_found, own_absent, is_free, ready_alone, kept_alone}
use Rattle.snoop_bus.proofs.HeldLemmas.{same_sets}
use Rattle.snoop_bus.proofs.HitLemmas.{load_hit}
use Rattle.snoop_bus.proofs.MemoryLemmas.{length-asked}
use Rattle.snoop_bus.proofs.NewLemmas.{same_cores}
use Rattle.snoop_bus.proofs.SettleAll.{keeps-more}
use Rattle.snoop_bus.proofs.TwoHalves.{load-in_halves}
use Rattle.snoop_bus.proofs.UpgradeAsk.{load_asks, load_ask-tags, load_ask-awaits}
use Rattle.snoop_bus.proofs.hierarchy.Hierarchy.load.Goals as goal

pub returns-in-Some : goal.returns-in-Some
returns-in-Some g c =
    let here =
    c.index_mut-cache.ensures.value
    ∙ get_or_default c.args.self.now.caches.items c.args.target.core c.index_mut-cache.result.now [] c.requires.ready.core_in in
    let found : copy_at c.args.self.now.caches.items c.args.target.core c.args.target.line ≡ Some c.in-Some.copy =
    own_found c.args.self.now.caches.items c.args.target.core c.args.target.line c.index.result.now
    (option_copied c.look.result) c.requires.ready.core_in c.index.ensures c.look.ensures.found c.in-Some.copy
    c.in-Some.ensures in
    let hit =
    load_hit (g.P.Protocol.table c.args.protocol.now) c.args.held c.args.self.now.caches.items
    c.args.self.now.memory.items c.args.target.core c.args.target.line c.args.target.offset c.in-Some.copy
    c.touch.new.self c.requires.ready.coherent c.requires.ready.awaited c.requires.ready.core_in
    c.requires.ready.line_in found
    (rw here at c.touch.ensures.exact) (rw here at c.touch.ensures.copies) (rw here at c.touch.ensures.ways) in
    record { ok = rw (c.from.ensures, c.quiet.ensures) hit.0; kept = hit.1 }

pub ask_load-requires : goal.ask_load-requires
ask_load-requires g c =
    let free : c.args.held ≡ None = is_free c.args.held c.if-prove.ensures in
    let here = c.index.ensures ∙ get_or_default c.args.self.now.caches.items c.args.target.core c.index.result.now [] c.requires.ready.core_in in
    record {
      ready = ready_alone c.args.held free c.args.target.core c.args.target.line c.args.self.now c.requires.ready;
      some_set = rw here at c.look.ensures.some;
      absent =
          own_absent c.args.self.now.caches.items c.args.target.core c.args.target.line c.index.result.now
          (option_copied c.look.result) c.requires.ready.core_in c.index.ensures c.look.ensures.found
          c.in_default.ensures;
    }

pub complete_load-word-requires-clause-awaited : goal.complete_load-word-requires-clause-awaited
complete_load-word-requires-clause-awaited g c =
    let here = c.index.ensures ∙ get_or_default c.args.self.now.caches.items c.args.target.core c.index.result.now [] c.requires.ready.core_in in
    let some : 0 < length (cache_of c.args.self.now.caches.items c.args.target.core) = rw here at c.look.ensures.some in
    record {
      coherent = c.ask_load.ensures.words.coherent;
      core_in = rw (same_cores c.args.self.now.caches.items c.ask_load.new.self.caches.items c.ask_load.ensures.ways) c.requires.ready.core_in;
      some_set = same_sets c.args.self.now.caches.items c.ask_load.new.self.caches.items c.args.target.core c.ask_load.ensures.ways some;
      line_in =
          rw (ap length c.ask_load.ensures.memory
          ∙ length-asked (g.P.Protocol.table c.args.protocol.now) GetS c.args.target.line c.args.self.now.caches.items c.args.self.now.memory.items)
          c.requires.ready.line_in;
      awaits =
          load_ask-awaits (g.P.Protocol.table c.args.protocol.now) c.args.target.line
          (current_words c.args.self.now.caches.items c.args.self.now.memory.items c.args.target.line)
          (tags_of c.args.self.now.caches.items)
          (copy_at c.ask_load.new.self.caches.items c.args.target.core c.args.target.line) c.ask_load.result
          c.ask_load.ensures.transaction c.ask_load.ensures.own;
    }

pub returns-clause-ok : goal.returns-clause-ok
returns-clause-ok g c =
    let absent : copy_at c.args.self.now.caches.items c.args.target.core c.args.target.line ≡ None =
    own_absent c.args.self.now.caches.items c.args.target.core c.args.target.line c.index.result.now
    (option_copied c.look.result) c.requires.ready.core_in c.index.ensures c.look.ensures.found
    c.in_default.ensures in
    rw (is_free c.args.held c.if-prove.ensures)
    (load-in_halves (g.P.Protocol.table c.args.protocol.now) c.args.target.core c.args.target.line
    (Some c.ask_load.result) c.args.self.now c.ask_load.new.self c.complete_load-word.new.self
    c.complete_load-word.result.1 c.requested_by.result
    c.requires.ready.line_in c.args.target.offset c.complete_load-word.result.0
    (record {
      asks = rw (load_asks c.args.self.now.caches.items c.args.target.core c.args.target.line absent) (rw c.ask_load.ensures.transaction refl);
      tags =
          load_ask-tags (g.P.Protocol.table c.args.protocol.now) c.args.self.now.caches.items c.args.target.core
          c.args.target.line false (tags_of c.ask_load.new.self.caches.items) refl absent c.ask_load.ensures.tags;
      memory = c.ask_load.ensures.memory;
      own = c.ask_load.ensures.cache;
      asked = c.ask_load.ensures.words;
      completed = c.complete_load-word.ensures.words;
      completes = c.complete_load-word.ensures.ok;
      both = c.requested_by.ensures;
    })
    absent c.complete_load-word.ensures.word)

pub returns-clause-kept : goal.returns-clause-kept
returns-clause-kept g c =
    kept_alone c.args.held (is_free c.args.held c.if-prove.ensures) c.args.self.now.caches.items
    c.complete_load-word.new.self.caches.items c.args.self.now.memory.items c.complete_load-word.new.self.memory.items
    (keeps-more c.args.self.now.caches.items _ c.complete_load-word.new.self.caches.items c.args.self.now.memory.items
    c.ask_load.new.self.memory.items c.complete_load-word.new.self.memory.items
    (ap length c.ask_load.ensures.memory
    ∙ length-asked (g.P.Protocol.table c.args.protocol.now) GetS c.args.target.line c.args.self.now.caches.items c.args.self.now.memory.items)
    c.ask_load.ensures.words c.complete_load-word.ensures.words)
