use Rattle.snoop_bus.proofs.Vocabulary.{refl, false, ◌<◌, ◌/◌, counted_copies_of, ap, length, ◌∙◌}
use Rattle.snoop_bus.proofs.MemoryLemmas.{length-whole}
use Rattle.snoop_bus.proofs.CallLemmas.{bus_ready, free_or_hit, loc_in, load_done}
use Rattle.snoop_bus.proofs.UpgradeAsk.{free_load}
use Rattle.snoop_bus.proofs.NewLemmas.{bus-kept, same_cores}
use Rattle.snoop_bus.proofs.bus.SnoopBus.read.Goals as goal

pub load-requires-clause-ready : goal.load-requires-clause-ready
load-requires-clause-ready g c =
    rw (c.target_of-target.ensures.value)
    (bus_ready c.self.inside.shape c.self.inside.locations c.self.inside.hierarchy c.self.inside.held
    c.args.core.0 c.args.loc.0 c.self.invariant (rw (← c.self.view_is) at c.requires.core) (rw (← c.self.view_is) at c.requires.loc))

pub returns-clause-done : goal.returns-clause-done
returns-clause-done g c =
    let within : c.args.loc.0 < c.self.inside.locations =
    loc_in c.self.inside.shape.words c.self.inside.locations
    (counted_copies_of c.self.inside.held c.self.inside.hierarchy.caches.items) c.self.inside.hierarchy.memory.items
    c.args.loc.0 (rw (← c.self.view_is) at c.requires.loc) in
    rw (← c.self.view_is)
    (load_done (g.P.Protocol.table c.self.inside.protocol) c.self.inside.shape c.self.inside.locations
    c.self.inside.hierarchy c.load.new.self c.self.inside.held c.args.core.0 c.args.loc.0 c.load.result.0
    c.load.result.1 c.self.invariant.some_word c.self.invariant.enough_lines within
    (rw (c.target_of-target.ensures.value) at c.load.ensures.ok)
    c.load.ensures.kept.words)

pub invariant_of-self : goal.invariant_of-self
invariant_of-self g c =
    (bus-kept c.self.inside.shape c.self.inside.locations c.self.inside.hierarchy c.load.new.self c.self.inside.held c.self.inside.held c.self.invariant
    (ap length c.load.ensures.ok.made.memory
    ∙ length-whole (g.P.Protocol.table c.self.inside.protocol) false c.target_of-target.result.core
    c.target_of-target.result.line c.self.inside.hierarchy.caches.items c.self.inside.hierarchy.memory.items)
    c.load.ensures.kept.words c.load.ensures.kept.ways c.load.ensures.kept.awaited c.self.invariant.placed)

pub load-requires-clause-free : goal.load-requires-clause-free
load-requires-clause-free g c =
    rw (c.target_of-target.ensures.value)
    (free_load (g.P.Protocol.table c.self.inside.protocol) c.self.inside.held c.self.inside.hierarchy.caches.items
    c.args.core.0 (c.args.loc.0 / c.self.inside.shape.words)
    (free_or_hit (g.P.Protocol.table c.self.inside.protocol) c.self.inside.shape c.self.inside.locations
    c.self.inside.hierarchy.caches.items c.self.inside.hierarchy.memory.items c.self.inside.held c.args.core.0
    c.args.loc.0 false (rw (← c.self.view_is) at c.requires.free)))

pub returns-clause-coherent : goal.returns-clause-coherent
returns-clause-coherent g c = (invariant_of-self g c).coherent

pub returns-clause-machine : goal.returns-clause-machine
returns-clause-machine g c =
    rw (← c.self.view_is)
    (record {
      rows = refl;
      shape = refl;
      cores = same_cores c.self.inside.hierarchy.caches.items c.load.new.self.caches.items c.load.ensures.kept.ways;
      locations = refl;
    })
