use Rattle.snoop_bus.proofs.Vocabulary.{◌≡◌, ◌<◌, true, false, Option, None, Some, is_some, [], length, ap, sym, ◌∙◌, get_or_default, M}
use Rattle.snoop_bus.proofs.Vocabulary.{State, hits, cache_of, copy_at, tags_of, option_copied}
use Rattle.snoop_bus.proofs.AcquireCalls.{own_found, own_absent, is_present, is_free, is_not_held, ready_alone, kept_alone, acquired_alone, written_is}
use Rattle.snoop_bus.proofs.BothWays.{valid-tag}
use Rattle.snoop_bus.proofs.HeldLemmas.{same_sets}
use Rattle.snoop_bus.proofs.HitLemmas.{write_hit}
use Rattle.snoop_bus.proofs.NewLemmas.{same_cores}
use Rattle.snoop_bus.proofs.SettleAll.{keeps-more}
use Rattle.snoop_bus.proofs.TwoHalves.{write-in_halves}
use Rattle.snoop_bus.proofs.UpgradeAsk.{alone, hits-absent, hits-found}
use Rattle.snoop_bus.proofs.hierarchy.Hierarchy.acquire.Goals as goal
use Rattle.snoop_bus.proofs.hierarchy.Hierarchy.acquire.Goals.{in-Some+else-is_some, in_default}

pub enter-requires-clause-present : goal.enter-requires-clause-present
enter-requires-clause-present g c =
    is_present (copy_at c.args.self.now.caches.items c.args.core c.args.line) c.in-Some.copy
    (own_found c.args.self.now.caches.items c.args.core c.args.line c.index.result.now (option_copied c.look.result)
    c.requires.ready.core_in c.index.ensures c.look.ensures.found c.in-Some.copy c.in-Some.ensures)

pub returns-then-is_some : goal.returns-then-is_some
returns-then-is_some g c =
    let t = g.P.Protocol.table c.args.protocol.now in
    let law = g.met.P.Protocol.writes_in_place c.args.protocol.now in
    let found : copy_at c.args.self.now.caches.items c.args.core c.args.line ≡ Some c.in-Some.copy =
    own_found c.args.self.now.caches.items c.args.core c.args.line c.index.result.now (option_copied c.look.result)
    c.requires.ready.core_in c.index.ensures c.look.ensures.found c.in-Some.copy c.in-Some.ensures in
    let writes = written_is t law c.in-Some.copy.state (sym (c.is_some.ensures ∙ ap (λ (o : Option State). is_some o) c.written.ensures) ∙ c.if-is_some.true) in
    let hit =
    write_hit t law c.args.held c.args.self.now.caches.items c.enter.new.self.caches.items
    c.args.self.now.memory.items c.args.core c.args.line c.in-Some.copy M
    c.requires.ready.coherent c.requires.ready.awaited c.requires.ready.line_in found writes c.enter.ensures.copies c.enter.ensures.tags c.enter.ensures.ways in
    record { ok = rw (c.quiet.ensures, c.enter.ensures.memory) hit.0; kept = rw c.enter.ensures.memory hit.1 }

pub prove-unreachable-requires : goal.prove-unreachable-requires
prove-unreachable-requires g c =
    let t = g.P.Protocol.table c.args.protocol.now in
    let misses : hits t c.args.core c.args.line true (tags_of c.args.self.now.caches.items) ≡ false =
    elim c.match-copied.branch [
      | in-Some+else-is_some w ↦
          hits-found t c.args.self.now.caches.items c.args.core c.args.line true w.in-Some.copy
          (own_found c.args.self.now.caches.items c.args.core c.args.line c.index.result.now
          (option_copied c.look.result) c.requires.ready.core_in c.index.ensures c.look.ensures.found w.in-Some.copy
          (sym w.in-Some.is ∙ c.copied.ensures))
          ∙ sym (w.is_some.ensures ∙ ap (λ (o : Option State). is_some o) w.written.ensures) ∙ w.if-is_some.false
      | in_default w ↦
          sym (hits-absent t c.args.self.now.caches.items c.args.core c.args.line true
          (own_absent c.args.self.now.caches.items c.args.core c.args.line c.index.result.now
          (option_copied c.look.result) c.requires.ready.core_in c.index.ensures c.look.ensures.found
          (sym w.in_default.is ∙ c.copied.ensures)))
    ] in
    is_not_held c.args.held (alone t c.args.held c.args.self.now.caches.items c.args.core c.args.line c.requires.free misses) c.if-prove.ensures

pub ask_write-transaction-requires : goal.ask_write-transaction-requires
ask_write-transaction-requires g c =
    let free : c.args.held ≡ None = is_free c.args.held c.if-prove.ensures in
    let here = c.index.ensures ∙ get_or_default c.args.self.now.caches.items c.args.core c.index.result.now [] c.requires.ready.core_in in
    record { ready = ready_alone c.args.held free c.args.core c.args.line c.args.self.now c.requires.ready; some_set = rw here at c.look.ensures.some }

pub acquire_asked-requires : goal.acquire_asked-requires
acquire_asked-requires g c =
    let here = c.index.ensures ∙ get_or_default c.args.self.now.caches.items c.args.core c.index.result.now [] c.requires.ready.core_in in
    let some : 0 < length (cache_of c.args.self.now.caches.items c.args.core) = rw here at c.look.ensures.some in
    record {
      awaited = record {
        coherent = rw c.ask_write-transaction.ensures.memory c.ask_write-transaction.ensures.words.coherent;
        core_in =
            rw
            (same_cores c.args.self.now.caches.items c.ask_write-transaction.new.self.caches.items c.ask_write-transaction.ensures.ways)
            c.requires.ready.core_in;
        some_set = same_sets c.args.self.now.caches.items c.ask_write-transaction.new.self.caches.items c.args.core c.ask_write-transaction.ensures.ways some;
        line_in = rw c.ask_write-transaction.ensures.memory c.requires.ready.line_in;
        awaits = c.ask_write-transaction.ensures.awaits;
      };
    }

pub returns-clause-ok : goal.returns-clause-ok
returns-clause-ok g c =
    let free : c.args.held ≡ None = is_free c.args.held c.if-prove.ensures in
    let ready = ready_alone c.args.held free c.args.core c.args.line c.args.self.now c.requires.ready in
    acquired_alone c.args.held free (g.P.Protocol.table c.args.protocol.now) c.args.core c.args.line
    c.args.self.now.caches.items c.acquire_asked.new.self.caches.items c.args.self.now.memory.items
    c.acquire_asked.new.self.memory.items c.acquire_asked.result.0 c.requested_by.result
    (write-in_halves (g.P.Protocol.table c.args.protocol.now) c.args.core c.args.line c.ask_write-transaction.result
    c.args.self.now c.ask_write-transaction.new.self c.acquire_asked.new.self c.acquire_asked.result.1
    c.requested_by.result
    c.requires.ready.line_in (g.met.P.Protocol.writes_in_place c.args.protocol.now) c.acquire_asked.result.0
    (record {
      asks = c.ask_write-transaction.ensures.transaction;
      tags = c.ask_write-transaction.ensures.tags;
      memory = c.ask_write-transaction.ensures.memory;
      own = c.ask_write-transaction.ensures.cache;
      asked = rw c.ask_write-transaction.ensures.memory c.ask_write-transaction.ensures.words;
      completed = c.acquire_asked.ensures.words;
      completes = c.acquire_asked.ensures.ok;
      both = c.requested_by.ensures;
    })
    (valid-tag c.args.self.now.caches.items c.args.self.now.memory.items c.args.core c.args.line ready.coherent)
    c.acquire_asked.ensures.found c.acquire_asked.ensures.own)

pub returns-clause-kept : goal.returns-clause-kept
returns-clause-kept g c =
    kept_alone c.args.held (is_free c.args.held c.if-prove.ensures) c.args.self.now.caches.items
    c.acquire_asked.new.self.caches.items c.args.self.now.memory.items c.acquire_asked.new.self.memory.items
    (keeps-more c.args.self.now.caches.items _ c.acquire_asked.new.self.caches.items c.args.self.now.memory.items
    c.ask_write-transaction.new.self.memory.items c.acquire_asked.new.self.memory.items
    (ap length c.ask_write-transaction.ensures.memory)
    (rw c.ask_write-transaction.ensures.memory c.ask_write-transaction.ensures.words) c.acquire_asked.ensures.words)
