use Rattle.snoop_bus.proofs.Vocabulary.{◌≡◌, refl, ◌/◌, ◌<◌, Some, None, length, ap, ◌∙◌, counted_copies_of, request_for}
use Rattle.snoop_bus.proofs.MemoryLemmas.{length-asked}
use Rattle.snoop_bus.proofs.RowLemmas.{table_of-rows}
use Rattle.snoop_bus.proofs.HolderLemmas.{free-held, not_here}
use Rattle.snoop_bus.proofs.NewLemmas.{bus-kept, same_cores}
use Rattle.snoop_bus.proofs.CallLemmas.{bus_ready, loc_in}
use Rattle.snoop_bus.proofs.AskCalls.{ask_done}
use Rattle.snoop_bus.proofs.bus.SnoopBus.ask.Goals as goal

pub ask-held-requires-clause-ready : goal.ask-held-requires-clause-ready
ask-held-requires-clause-ready g c =
    let free : c.self.inside.held ≡ None = free-held c.self.inside.held (rw (← c.self.view_is) at c.requires.free) in
    let loc = rw (← c.self.view_is) at c.requires.loc in
    rw (c.line_of-line.ensures.value)
    (bus_ready c.self.inside.shape c.self.inside.locations c.self.inside.hierarchy None
    c.args.core.0 c.args.loc.0 (rw free at c.self.invariant) (rw (← c.self.view_is) at c.requires.core) (rw free at loc))

pub ask-held-requires-clause-misses : goal.ask-held-requires-clause-misses
ask-held-requires-clause-misses g c = λ e.
    let misses = (rw (← c.self.view_is) at c.requires.misses) e in
    rw (c.line_of-line.ensures.value)
    (not_here (g.P.Protocol.table c.self.inside.protocol) c.self.inside.hierarchy.caches.items c.args.core.0
    (c.args.loc.0 / c.self.inside.shape.words)
    (rw (table_of-rows (g.P.Protocol.table c.self.inside.protocol)) at misses))

pub returns-clause-done : goal.returns-clause-done
returns-clause-done g c =
    let free : c.self.inside.held ≡ None = free-held c.self.inside.held (rw (← c.self.view_is) at c.requires.free) in
    let within : c.args.loc.0 < c.self.inside.locations =
    loc_in c.self.inside.shape.words c.self.inside.locations
    (counted_copies_of c.self.inside.held c.self.inside.hierarchy.caches.items) c.self.inside.hierarchy.memory.items
    c.args.loc.0 (rw (← c.self.view_is) at c.requires.loc) in
    rw (← c.self.view_is, free)
    (ask_done (g.P.Protocol.table c.self.inside.protocol) c.self.inside.shape c.self.inside.locations
    c.self.inside.hierarchy.caches.items c.ask-held.new.self.caches.items c.self.inside.hierarchy.memory.items
    c.ask-held.new.self.memory.items c.args.core c.args.loc c.args.write c.ask-held.result c.request_in.result
    c.request_in.ensures
    (record {
      some_word = c.self.invariant.some_word;
      enough = c.self.invariant.enough_lines;
      exact = rw (c.line_of-line.ensures.value) at c.ask-held.ensures.exact;
      tags = rw (c.line_of-line.ensures.value) at c.ask-held.ensures.tags;
      memory = rw (c.line_of-line.ensures.value) at c.ask-held.ensures.memory;
      own = c.ask-held.ensures.cache;
      words = c.ask-held.ensures.words;
    }))

pub invariant_of-self : goal.invariant_of-self
invariant_of-self g c =
    let free : c.self.inside.held ≡ None = free-held c.self.inside.held (rw (← c.self.view_is) at c.requires.free) in
    let within : c.args.loc.0 < c.self.inside.locations =
    loc_in c.self.inside.shape.words c.self.inside.locations
    (counted_copies_of c.self.inside.held c.self.inside.hierarchy.caches.items) c.self.inside.hierarchy.memory.items
    c.args.loc.0 (rw (← c.self.view_is) at c.requires.loc) in
    (bus-kept c.self.inside.shape c.self.inside.locations c.self.inside.hierarchy c.ask-held.new.self None
    (Some c.ask-held.result) (rw free at c.self.invariant)
    (ap length c.ask-held.ensures.memory
    ∙ length-asked (g.P.Protocol.table c.self.inside.protocol) (request_for c.args.write) c.line_of-line.result
    c.self.inside.hierarchy.caches.items c.self.inside.hierarchy.memory.items)
    c.ask-held.ensures.words c.ask-held.ensures.ways c.ask-held.ensures.awaited
    (rw c.ask-held.ensures.exact (record { loc_in = within; line_is = c.line_of-line.ensures.value })))

pub returns-clause-coherent : goal.returns-clause-coherent
returns-clause-coherent g c = (invariant_of-self g c).coherent

pub returns-clause-machine : goal.returns-clause-machine
returns-clause-machine g c =
    rw (← c.self.view_is)
    (record {
      rows = refl;
      shape = refl;
      cores =
          same_cores c.self.inside.hierarchy.caches.items c.ask-held.new.self.caches.items c.ask-held.ensures.ways;
      locations = refl;
    })
