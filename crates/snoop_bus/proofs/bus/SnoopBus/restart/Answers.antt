use Rattle.snoop_bus.proofs.Vocabulary.{◌≡◌, ◌∙◌, ap, sym, rules, length, with_items_is, table_of_rows, BusModel, cores_of, new_bus}
use Rattle.snoop_bus.proofs.Emptied.{count-words, begins-anew}
use Rattle.snoop_bus.proofs.bus.SnoopBus.restart.Goals as goal

pub invariant_of-self : goal.invariant_of-self
invariant_of-self g c =
    let cs = with_items_is c.self.inside.hierarchy.caches c.clear_caches.new.caches (search rules) in
    let ms = with_items_is c.self.inside.hierarchy.memory c.put_lines.new.lines (search rules) in
    let same : length c.args.init.now ≡ c.self.inside.locations =
    c.requires ∙ count-words c.args.self.now ∙ ap (λ (b : BusModel). b.locations) (sym c.self.view_is) in
    let caches = rw c.deref_mut.ensures.value at c.clear_caches.ensures in
    let memory = rw c.deref_mut-2.ensures.value at c.put_lines.ensures.value in
    rw (cs, ms)
    (begins-anew (g.P.Protocol.table c.self.inside.protocol) c.self.inside.shape c.self.inside.locations
    c.self.inside.hierarchy.caches.items c.clear_caches.new.caches c.self.inside.hierarchy.memory.items
    c.put_lines.new.lines
    c.self.inside.held c.args.init.now c.self.invariant c.put_lines.ensures.size.1 same caches memory).bus

pub returns-clause-words : goal.returns-clause-words
returns-clause-words g c =
    let cs = with_items_is c.self.inside.hierarchy.caches c.clear_caches.new.caches (search rules) in
    let ms = with_items_is c.self.inside.hierarchy.memory c.put_lines.new.lines (search rules) in
    let same : length c.args.init.now ≡ c.self.inside.locations =
    c.requires ∙ count-words c.args.self.now ∙ ap (λ (b : BusModel). b.locations) (sym c.self.view_is) in
    let caches = rw c.deref_mut.ensures.value at c.clear_caches.ensures in
    let memory = rw c.deref_mut-2.ensures.value at c.put_lines.ensures.value in
    rw (cs, ms)
    (begins-anew (g.P.Protocol.table c.self.inside.protocol) c.self.inside.shape c.self.inside.locations
    c.self.inside.hierarchy.caches.items c.clear_caches.new.caches c.self.inside.hierarchy.memory.items
    c.put_lines.new.lines
    c.self.inside.held c.args.init.now c.self.invariant c.put_lines.ensures.size.1 same caches memory).words

pub returns-clause-exact : goal.returns-clause-exact
returns-clause-exact g c =
    let cs = with_items_is c.self.inside.hierarchy.caches c.clear_caches.new.caches (search rules) in
    let ms = with_items_is c.self.inside.hierarchy.memory c.put_lines.new.lines (search rules) in
    let same : length c.args.init.now ≡ c.self.inside.locations =
    c.requires ∙ count-words c.args.self.now ∙ ap (λ (b : BusModel). b.locations) (sym c.self.view_is) in
    let caches = rw c.deref_mut.ensures.value at c.clear_caches.ensures in
    let memory = rw c.deref_mut-2.ensures.value at c.put_lines.ensures.value in
    rw (cs, ms)
    ((begins-anew (g.P.Protocol.table c.self.inside.protocol) c.self.inside.shape c.self.inside.locations
    c.self.inside.hierarchy.caches.items c.clear_caches.new.caches c.self.inside.hierarchy.memory.items
    c.put_lines.new.lines
    c.self.inside.held c.args.init.now c.self.invariant c.put_lines.ensures.size.1 same caches memory).exact
    ∙ ap (λ (b : BusModel). new_bus (table_of_rows b.rows) (cores_of b) b.shape c.args.init.now) c.self.view_is)

pub returns-clause-coherent : goal.returns-clause-coherent
returns-clause-coherent g c = (invariant_of-self g c).coherent
