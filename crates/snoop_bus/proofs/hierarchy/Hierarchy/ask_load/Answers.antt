use Rattle.snoop_bus.proofs.Vocabulary.{[], ap, ◌∙◌, supplier_in, get_or_default, line_in}
use Rattle.snoop_bus.proofs.AskLemmas.{load_ask-transaction, load_ask-memory, load_ask-words}
use Rattle.snoop_bus.proofs.hierarchy.Hierarchy.ask_load.Goals as goal

pub returns-clause-transaction : goal.returns-clause-transaction
returns-clause-transaction g c =
    let t = g.P.Protocol.table c.args.protocol.now in
    let p = c.args.protocol.now in
    let line =
    (rw c.from.ensures at c.index.ensures)
    ∙ get_or_default c.args.self.now.memory.items c.args.line c.index.result.now [] c.requires.ready.line_in in
    load_ask-transaction t (g.met.P.Protocol.fills_exclusive_only_alone p) (g.met.P.Protocol.shares p)
    (g.met.P.Protocol.cleans_by_memory p) (g.met.P.Protocol.supplies_to_readers p)
    c.args.self.now.caches.items c.snoop_others.new.self.caches.items c.args.self.now.memory.items
    c.flush.new.self.memory.items c.args.core c.args.line c.unwrap_or-words.result c.filled-state.result
    c.find-found.result.flushed c.supplier_in.result c.find-found.result.states
    (record {
      coherent = c.requires.ready.coherent;
      core_in = c.requires.ready.core_in;
      some_set = c.requires.some_set;
      within = c.requires.ready.line_in;
      absent = c.requires.absent;
      words =
          rw (c.unwrap_or-words.ensures, line)
          (rw c.deref.ensures.value at (c.find-found.ensures.words (line_in c.args.self.now.memory.items c.args.line)));
      state = rw (c.find-found.ensures.shared, c.deref.ensures.value) at c.filled-state.ensures;
      left = c.snoop_others.ensures.copies;
      ways = c.snoop_others.ensures.ways;
      flusher = rw c.deref.ensures.value at c.find-found.ensures.flushed;
      supplier = c.supplier_in.ensures ∙ ap supplier_in (rw c.deref.ensures.value at c.find-found.ensures.supplier);
      told = rw c.deref.ensures.value at c.find-found.ensures.told;
      memory = rw c.snoop_others.ensures.memory at c.flush.ensures.memory;
    })

pub returns-clause-memory : goal.returns-clause-memory
returns-clause-memory g c =
    let t = g.P.Protocol.table c.args.protocol.now in
    let p = c.args.protocol.now in
    let line =
    (rw c.from.ensures at c.index.ensures)
    ∙ get_or_default c.args.self.now.memory.items c.args.line c.index.result.now [] c.requires.ready.line_in in
    load_ask-memory t (g.met.P.Protocol.fills_exclusive_only_alone p) (g.met.P.Protocol.shares p)
    (g.met.P.Protocol.cleans_by_memory p) (g.met.P.Protocol.supplies_to_readers p)
    c.args.self.now.caches.items c.snoop_others.new.self.caches.items c.args.self.now.memory.items
    c.flush.new.self.memory.items c.args.core c.args.line c.unwrap_or-words.result c.filled-state.result
    c.find-found.result.flushed c.supplier_in.result c.find-found.result.states
    (record {
      coherent = c.requires.ready.coherent;
      core_in = c.requires.ready.core_in;
      some_set = c.requires.some_set;
      within = c.requires.ready.line_in;
      absent = c.requires.absent;
      words =
          rw (c.unwrap_or-words.ensures, line)
          (rw c.deref.ensures.value at (c.find-found.ensures.words (line_in c.args.self.now.memory.items c.args.line)));
      state = rw (c.find-found.ensures.shared, c.deref.ensures.value) at c.filled-state.ensures;
      left = c.snoop_others.ensures.copies;
      ways = c.snoop_others.ensures.ways;
      flusher = rw c.deref.ensures.value at c.find-found.ensures.flushed;
      supplier = c.supplier_in.ensures ∙ ap supplier_in (rw c.deref.ensures.value at c.find-found.ensures.supplier);
      told = rw c.deref.ensures.value at c.find-found.ensures.told;
      memory = rw c.snoop_others.ensures.memory at c.flush.ensures.memory;
    })

pub returns-clause-words : goal.returns-clause-words
returns-clause-words g c =
    let t = g.P.Protocol.table c.args.protocol.now in
    let p = c.args.protocol.now in
    let line =
    (rw c.from.ensures at c.index.ensures)
    ∙ get_or_default c.args.self.now.memory.items c.args.line c.index.result.now [] c.requires.ready.line_in in
    rw c.flush.ensures.caches
    (load_ask-words t (g.met.P.Protocol.fills_exclusive_only_alone p) (g.met.P.Protocol.shares p)
    (g.met.P.Protocol.cleans_by_memory p) (g.met.P.Protocol.supplies_to_readers p)
    c.args.self.now.caches.items c.snoop_others.new.self.caches.items c.args.self.now.memory.items
    c.flush.new.self.memory.items c.args.core c.args.line c.unwrap_or-words.result c.filled-state.result
    c.find-found.result.flushed c.supplier_in.result c.find-found.result.states
    (record {
      coherent = c.requires.ready.coherent;
      core_in = c.requires.ready.core_in;
      some_set = c.requires.some_set;
      within = c.requires.ready.line_in;
      absent = c.requires.absent;
      words =
          rw (c.unwrap_or-words.ensures, line)
          (rw c.deref.ensures.value at (c.find-found.ensures.words (line_in c.args.self.now.memory.items c.args.line)));
      state = rw (c.find-found.ensures.shared, c.deref.ensures.value) at c.filled-state.ensures;
      left = c.snoop_others.ensures.copies;
      ways = c.snoop_others.ensures.ways;
      flusher = rw c.deref.ensures.value at c.find-found.ensures.flushed;
      supplier = c.supplier_in.ensures ∙ ap supplier_in (rw c.deref.ensures.value at c.find-found.ensures.supplier);
      told = rw c.deref.ensures.value at c.find-found.ensures.told;
      memory = rw c.snoop_others.ensures.memory at c.flush.ensures.memory;
    }))
