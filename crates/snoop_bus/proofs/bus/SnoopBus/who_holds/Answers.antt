use Rattle.snoop_bus.proofs.HolderLemmas.{stands_alone}
use Rattle.snoop_bus.proofs.bus.SnoopBus.who_holds.Goals as goal

pub returns-in-None-clause-alone : goal.returns-in-None-clause-alone
returns-in-None-clause-alone g c =
    rw (← c.self.view_is)
    (stands_alone (g.P.Protocol.table c.self.inside.protocol) c.self.inside.shape c.self.inside.locations
    c.self.inside.hierarchy.caches.items c.self.inside.hierarchy.memory.items c.self.inside.held
    c.self.invariant.coherent c.self.invariant.awaited c.self.invariant.placed)

pub returns-in-Some-clause-alone : goal.returns-in-Some-clause-alone
returns-in-Some-clause-alone g c =
    rw (← c.self.view_is)
    (stands_alone (g.P.Protocol.table c.self.inside.protocol) c.self.inside.shape c.self.inside.locations
    c.self.inside.hierarchy.caches.items c.self.inside.hierarchy.memory.items c.self.inside.held
    c.self.invariant.coherent c.self.invariant.awaited c.self.invariant.placed)
