use Rattle.snoop_bus.proofs.Vocabulary.{◌≡◌, ◌/◌, Bool, not, false, Some, None, [], sym, ap, subst, ◌∙◌, get_or_default, is_some, IfSome}
use Rattle.snoop_bus.proofs.Vocabulary.{Option, State, Sets, tags_of, copy_in, copy_at, hits, bus_with, holder_of}
use Rattle.snoop_bus.specs.inner.Accesses.{KeepsOut}
use Rattle.snoop_bus.proofs.HolderLemmas.{taken}
use Rattle.snoop_bus.proofs.RowLemmas.{table_of-rows}
use Rattle.snoop_bus.proofs.UpgradeAsk.{hits-absent, hits-read, hits-write}
use Rattle.snoop_bus.proofs.bus.SnoopBus.would_hit.Goals as goal

pub returns-in-None : goal.returns-in-None
returns-in-None g c =
    let t = g.P.Protocol.table c.self.inside.protocol in
    let caches = c.self.inside.hierarchy.caches.items in
    let line = c.args.loc.0 / c.self.inside.shape.words in
    let looked =
    (rw c.from-at.ensures at c.index.ensures)
    ∙ get_or_default caches c.args.core.0 c.index.result.now [] (rw (← c.self.view_is) at c.requires.core) in
    let absent : copy_at caches c.args.core.0 line ≡ None =
    sym (ap (λ (sets : Sets). copy_in sets line) looked)
    ∙ sym (rw c.line_of-line.ensures.value at c.in-None.ensures.found) in
    let at : false ≡ hits t c.args.core.0 line c.args.write (tags_of caches) = hits-absent t caches c.args.core.0 line c.args.write absent in
    let now = bus_with t c.self.inside.shape c.self.inside.locations caches c.self.inside.hierarchy.memory.items c.self.inside.held in
    record {
      value = rw (← c.self.view_is, table_of-rows t) at;
      taken = rw (← c.self.view_is)
          (subst (λ (b : Bool). IfSome (holder_of now) (KeepsOut now c.args.core c.args.loc b)) (sym at)
          (taken t c.self.inside.locations c.self.inside.shape caches c.self.inside.hierarchy.memory.items
          c.self.inside.held c.args.core c.args.loc c.args.write c.self.invariant.coherent c.self.invariant.awaited
          c.self.invariant.placed));
    }

pub returns-then-not-write : goal.returns-then-not-write
returns-then-not-write g c =
    let t = g.P.Protocol.table c.self.inside.protocol in
    let caches = c.self.inside.hierarchy.caches.items in
    let line = c.args.loc.0 / c.self.inside.shape.words in
    let looked =
    (rw c.from-at.ensures at c.index.ensures)
    ∙ get_or_default caches c.args.core.0 c.index.result.now [] (rw (← c.self.view_is) at c.requires.core) in
    let found : copy_at caches c.args.core.0 line ≡ Some c.in-Some.copy.now =
    sym (ap (λ (sets : Sets). copy_in sets line) looked)
    ∙ sym (rw c.line_of-line.ensures.value at c.in-Some.ensures.found) in
    let at : not c.args.write ≡ hits t c.args.core.0 line c.args.write (tags_of caches) =
    hits-read t caches c.args.core.0 line c.args.write c.in-Some.copy.now found c.if-not-write.true in
    let now = bus_with t c.self.inside.shape c.self.inside.locations caches c.self.inside.hierarchy.memory.items c.self.inside.held in
    record {
      value = rw (← c.self.view_is, table_of-rows t) at;
      taken = rw (← c.self.view_is)
          (subst (λ (b : Bool). IfSome (holder_of now) (KeepsOut now c.args.core c.args.loc b)) (sym at)
          (taken t c.self.inside.locations c.self.inside.shape caches c.self.inside.hierarchy.memory.items
          c.self.inside.held c.args.core c.args.loc c.args.write c.self.invariant.coherent c.self.invariant.awaited
          c.self.invariant.placed));
    }

pub returns-else-not-write : goal.returns-else-not-write
returns-else-not-write g c =
    let t = g.P.Protocol.table c.self.inside.protocol in
    let caches = c.self.inside.hierarchy.caches.items in
    let line = c.args.loc.0 / c.self.inside.shape.words in
    let looked =
    (rw c.from-at.ensures at c.index.ensures)
    ∙ get_or_default caches c.args.core.0 c.index.result.now [] (rw (← c.self.view_is) at c.requires.core) in
    let found : copy_at caches c.args.core.0 line ≡ Some c.in-Some.copy.now =
    sym (ap (λ (sets : Sets). copy_in sets line) looked)
    ∙ sym (rw c.line_of-line.ensures.value at c.in-Some.ensures.found) in
    let at : c.is_some.result ≡ hits t c.args.core.0 line c.args.write (tags_of caches) =
    hits-write t caches c.args.core.0 line c.args.write c.in-Some.copy.now c.is_some.result found c.if-not-write.false
    (c.is_some.ensures ∙ ap (λ (o : Option State). is_some o) c.written.ensures) in
    let now = bus_with t c.self.inside.shape c.self.inside.locations caches c.self.inside.hierarchy.memory.items c.self.inside.held in
    record {
      value = rw (← c.self.view_is, table_of-rows t) at;
      taken = rw (← c.self.view_is)
          (subst (λ (b : Bool). IfSome (holder_of now) (KeepsOut now c.args.core c.args.loc b)) (sym at)
          (taken t c.self.inside.locations c.self.inside.shape caches c.self.inside.hierarchy.memory.items
          c.self.inside.held c.args.core c.args.loc c.args.write c.self.invariant.coherent c.self.invariant.awaited
          c.self.invariant.placed));
    }
