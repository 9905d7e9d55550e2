use Rattle.snoop_bus.proofs.Vocabulary.{rules, refl, true, ◌<◌, ◌/◌, ◌%◌, counted_copies_of, ap, length, slice_index, ◌∙◌, Updated, Updates}
use Rattle.snoop_bus.proofs.CallLemmas.{bus_ready, free_or_hit, loc_in, write_word, write_done}
use Rattle.snoop_bus.proofs.MemoryLemmas.{length-whole}
use Rattle.snoop_bus.proofs.NewLemmas.{bus-written, same_cores}
use Rattle.snoop_bus.proofs.WordLemmas.{line_below}
use Rattle.snoop_bus.proofs.WordWritten.{present_own, word_written}
use Rattle.snoop_bus.proofs.bus.SnoopBus.update.Goals as goal

pub acquire-requires-clause-ready : goal.acquire-requires-clause-ready
acquire-requires-clause-ready g c =
    rw (c.target_of-target.ensures.value)
    (bus_ready c.self.inside.shape c.self.inside.locations c.self.inside.hierarchy c.self.inside.held
    c.args.core.0 c.args.loc.0 c.self.invariant (rw (← c.self.view_is) at c.requires.core) (rw (← c.self.view_is) at c.requires.loc))

pub acquire-requires-clause-free : goal.acquire-requires-clause-free
acquire-requires-clause-free g c =
    rw (c.target_of-target.ensures.value)
    (free_or_hit (g.P.Protocol.table c.self.inside.protocol) c.self.inside.shape c.self.inside.locations
    c.self.inside.hierarchy.caches.items c.self.inside.hierarchy.memory.items c.self.inside.held c.args.core.0
    c.args.loc.0 true (rw (← c.self.view_is) at c.requires.free))

pub write-requires-clause-core : goal.write-requires-clause-core
write-requires-clause-core g c =
    rw (
      same_cores c.self.inside.hierarchy.caches.items c.acquire.new.self.caches.items c.acquire.ensures.kept.ways,
      c.target_of-target.ensures.value,
    )
    (rw (← c.self.view_is) at c.requires.core)

pub write-requires-clause-present : goal.write-requires-clause-present
write-requires-clause-present g c =
    present_own c.acquire.new.self.caches.items c.target_of-target.result.core c.target_of-target.result.line
    c.acquire.result.0 c.acquire.ensures.ok.own

pub returns-clause-before : goal.returns-clause-before
returns-clause-before g c =
    let within : c.args.loc.0 < c.self.inside.locations =
    loc_in c.self.inside.shape.words c.self.inside.locations
    (counted_copies_of c.self.inside.held c.self.inside.hierarchy.caches.items) c.self.inside.hierarchy.memory.items
    c.args.loc.0 (rw (← c.self.view_is) at c.requires.loc) in
    let line : c.target_of-target.result.line < length c.self.inside.hierarchy.memory.items = rw c.target_of-target.ensures.value
    (line_below c.self.inside.shape.words c.self.inside.locations (length c.self.inside.hierarchy.memory.items)
    c.args.loc.0 c.self.invariant.some_word c.self.invariant.enough_lines within) in
    let written =
    word_written (g.P.Protocol.table c.self.inside.protocol) c.self.inside.held c.self.inside.hierarchy.caches.items
    c.acquire.new.self.caches.items c.write.new.self.caches.items c.self.inside.hierarchy.memory.items
    c.acquire.new.self.memory.items c.target_of-target.result.core c.target_of-target.result.line
    c.target_of-target.result.offset c.apply-after.result c.acquire.result.0 c.acquire.result.1
    line (search rules) (ap length c.acquire.ensures.ok.made.memory
    ∙ length-whole (g.P.Protocol.table c.self.inside.protocol) true c.target_of-target.result.core
    c.target_of-target.result.line c.self.inside.hierarchy.caches.items c.self.inside.hierarchy.memory.items)
    c.acquire.ensures.ok c.acquire.ensures.kept.words c.acquire.ensures.kept.awaited c.acquire.ensures.kept.ways
    c.write.ensures.copies c.write.ensures.tags c.write.ensures.ways in
    let u : Updated = record {
      before = slice_index c.acquire.result.0 c.target_of-target.result.offset;
      after = c.apply-after.result;
      report = c.acquire.result.1;
    } in
    let ok : Updates (g.P.Protocol.table c.self.inside.protocol) c.self.inside.held c.args.core.0
    (c.args.loc.0 / c.self.inside.shape.words) (c.args.loc.0 % c.self.inside.shape.words)
    c.self.inside.hierarchy.caches.items c.write.new.self.caches.items c.self.inside.hierarchy.memory.items
    c.write.new.self.memory.items u =
    rw (c.write.ensures.memory, c.target_of-target.ensures.value) (rw c.target_of-target.ensures.value at written.0) in
    rw (← c.self.view_is, c.from.ensures)
    (write_word (g.P.Protocol.table c.self.inside.protocol) c.self.inside.shape c.self.inside.locations
    c.self.inside.hierarchy c.write.new.self c.self.inside.held c.args.core.0 c.args.loc.0 u within ok)

pub returns-clause-done : goal.returns-clause-done
returns-clause-done g c =
    let within : c.args.loc.0 < c.self.inside.locations =
    loc_in c.self.inside.shape.words c.self.inside.locations
    (counted_copies_of c.self.inside.held c.self.inside.hierarchy.caches.items) c.self.inside.hierarchy.memory.items
    c.args.loc.0 (rw (← c.self.view_is) at c.requires.loc) in
    let line : c.target_of-target.result.line < length c.self.inside.hierarchy.memory.items = rw c.target_of-target.ensures.value
    (line_below c.self.inside.shape.words c.self.inside.locations (length c.self.inside.hierarchy.memory.items)
    c.args.loc.0 c.self.invariant.some_word c.self.invariant.enough_lines within) in
    let written =
    word_written (g.P.Protocol.table c.self.inside.protocol) c.self.inside.held c.self.inside.hierarchy.caches.items
    c.acquire.new.self.caches.items c.write.new.self.caches.items c.self.inside.hierarchy.memory.items
    c.acquire.new.self.memory.items c.target_of-target.result.core c.target_of-target.result.line
    c.target_of-target.result.offset c.apply-after.result c.acquire.result.0 c.acquire.result.1
    line (search rules) (ap length c.acquire.ensures.ok.made.memory
    ∙ length-whole (g.P.Protocol.table c.self.inside.protocol) true c.target_of-target.result.core
    c.target_of-target.result.line c.self.inside.hierarchy.caches.items c.self.inside.hierarchy.memory.items)
    c.acquire.ensures.ok c.acquire.ensures.kept.words c.acquire.ensures.kept.awaited c.acquire.ensures.kept.ways
    c.write.ensures.copies c.write.ensures.tags c.write.ensures.ways in
    let u : Updated = record {
      before = slice_index c.acquire.result.0 c.target_of-target.result.offset;
      after = c.apply-after.result;
      report = c.acquire.result.1;
    } in
    let ok : Updates (g.P.Protocol.table c.self.inside.protocol) c.self.inside.held c.args.core.0
    (c.args.loc.0 / c.self.inside.shape.words) (c.args.loc.0 % c.self.inside.shape.words)
    c.self.inside.hierarchy.caches.items c.write.new.self.caches.items c.self.inside.hierarchy.memory.items
    c.write.new.self.memory.items u =
    rw (c.write.ensures.memory, c.target_of-target.ensures.value) (rw c.target_of-target.ensures.value at written.0) in
    rw (← c.self.view_is)
    (write_done (g.P.Protocol.table c.self.inside.protocol) c.self.inside.shape c.self.inside.locations
    c.self.inside.hierarchy c.write.new.self c.self.inside.held c.args.core.0 c.args.loc.0
    u within ok c.self.invariant.some_word c.self.invariant.enough_lines)

pub invariant_of-self : goal.invariant_of-self
invariant_of-self g c =
    let within : c.args.loc.0 < c.self.inside.locations =
    loc_in c.self.inside.shape.words c.self.inside.locations
    (counted_copies_of c.self.inside.held c.self.inside.hierarchy.caches.items) c.self.inside.hierarchy.memory.items
    c.args.loc.0 (rw (← c.self.view_is) at c.requires.loc) in
    let line : c.target_of-target.result.line < length c.self.inside.hierarchy.memory.items = rw c.target_of-target.ensures.value
    (line_below c.self.inside.shape.words c.self.inside.locations (length c.self.inside.hierarchy.memory.items)
    c.args.loc.0 c.self.invariant.some_word c.self.invariant.enough_lines within) in
    let written =
    word_written (g.P.Protocol.table c.self.inside.protocol) c.self.inside.held c.self.inside.hierarchy.caches.items
    c.acquire.new.self.caches.items c.write.new.self.caches.items c.self.inside.hierarchy.memory.items
    c.acquire.new.self.memory.items c.target_of-target.result.core c.target_of-target.result.line
    c.target_of-target.result.offset c.apply-after.result c.acquire.result.0 c.acquire.result.1
    line (search rules) (ap length c.acquire.ensures.ok.made.memory
    ∙ length-whole (g.P.Protocol.table c.self.inside.protocol) true c.target_of-target.result.core
    c.target_of-target.result.line c.self.inside.hierarchy.caches.items c.self.inside.hierarchy.memory.items)
    c.acquire.ensures.ok c.acquire.ensures.kept.words c.acquire.ensures.kept.awaited c.acquire.ensures.kept.ways
    c.write.ensures.copies c.write.ensures.tags c.write.ensures.ways in
    let u : Updated = record {
      before = slice_index c.acquire.result.0 c.target_of-target.result.offset;
      after = c.apply-after.result;
      report = c.acquire.result.1;
    } in
    let ok : Updates (g.P.Protocol.table c.self.inside.protocol) c.self.inside.held c.args.core.0
    (c.args.loc.0 / c.self.inside.shape.words) (c.args.loc.0 % c.self.inside.shape.words)
    c.self.inside.hierarchy.caches.items c.write.new.self.caches.items c.self.inside.hierarchy.memory.items
    c.write.new.self.memory.items u =
    rw (c.write.ensures.memory, c.target_of-target.ensures.value) (rw c.target_of-target.ensures.value at written.0) in
    bus-written (g.P.Protocol.table c.self.inside.protocol) c.self.inside.held u c.self.inside.shape
    c.self.inside.locations c.self.inside.hierarchy c.write.new.self c.args.core.0 c.args.loc.0 c.self.invariant
    (ap length c.write.ensures.memory
    ∙ ap length c.acquire.ensures.ok.made.memory
    ∙ length-whole (g.P.Protocol.table c.self.inside.protocol) true c.target_of-target.result.core
    c.target_of-target.result.line c.self.inside.hierarchy.caches.items c.self.inside.hierarchy.memory.items)
    within
    (rw c.write.ensures.memory written.1) (rw c.write.ensures.memory written.3) written.2 ok

pub returns-clause-coherent : goal.returns-clause-coherent
returns-clause-coherent g c = (invariant_of-self g c).coherent

pub returns-clause-machine : goal.returns-clause-machine
returns-clause-machine g c =
    rw (← c.self.view_is)
    (record {
      rows = refl;
      shape = refl;
      cores =
          same_cores c.self.inside.hierarchy.caches.items c.write.new.self.caches.items (c.write.ensures.ways ∙ c.acquire.ensures.kept.ways);
      locations = refl;
    })
