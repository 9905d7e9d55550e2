use Rattle.snoop_bus.proofs.Vocabulary.{◌≡◌, ways_of, snoop_column, SeenBelow, LeftBelow}
use Rattle.snoop_bus.proofs.hierarchy.Hierarchy.snoop_others.Given as goal

abbrev pub invariant-loop-other : goal.invariant-loop-other
invariant-loop-other g l = record {
  seen : SeenBelow l.other (snoop_column (g.P.Protocol.table l.protocol) l.fn.request) l.core l.line l.fn.self.caches.items l.self.caches.items;
  copies : LeftBelow l.other (snoop_column (g.P.Protocol.table l.protocol) l.fn.request) l.core l.line l.fn.self.caches.items l.self.caches.items;
  memory : l.self.memory.items ≡ l.fn.self.memory.items;
  ways : ways_of l.self.caches.items ≡ ways_of l.fn.self.caches.items;
}
