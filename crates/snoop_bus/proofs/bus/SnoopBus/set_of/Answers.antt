use Rattle.snoop_bus.proofs.Vocabulary.{◌≡◌, ◌<◌, [], length, ap, ◌∙◌, get_or_default}
use Rattle.snoop_bus.proofs.NewLemmas.{cache-sets}
use Rattle.snoop_bus.proofs.bus.SnoopBus.set_of.Goals as goal

pub set-requires : goal.set-requires
set-requires g c =
    let within : c.args.core.0 < length c.self.inside.hierarchy.caches.items = rw (← c.self.view_is) at c.requires.core in
    let set : c.args.set < c.self.inside.shape.sets = rw (← c.self.view_is) at c.requires.set in
    let here = rw c.from.ensures at c.index.ensures in
    let sized : length c.index.result.now ≡ c.self.inside.shape.sets =
    ap length (here ∙ get_or_default c.self.inside.hierarchy.caches.items c.args.core.0 c.index.result.now [] within)
    ∙ cache-sets c.self.inside.shape c.self.inside.locations c.self.inside.hierarchy.caches.items
    c.self.inside.hierarchy.memory.items c.self.inside.held c.args.core.0 c.self.invariant within in
    rw sized set
