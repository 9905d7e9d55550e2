use Rattle.snoop_bus.proofs.Vocabulary.{◌≡◌, ◌<◌, Some, None, [], length, sym, ap, ◌∙◌, option_map, get_or_default, Line, Option, Sets, copy_in, copy_at}
use Rattle.snoop_bus.proofs.StateLemmas.{tag_at-copy}
use Rattle.snoop_bus.proofs.bus.SnoopBus.copy_state.Goals as goal

pub returns-in-None : goal.returns-in-None
returns-in-None g c =
    let core = c.args.core.0 in
    let caches = c.self.inside.hierarchy.caches.items in
    let within : core < length caches = rw (← c.self.view_is) at c.requires in
    let looked = (rw c.from.ensures at c.index.ensures) ∙ get_or_default caches core c.index.result.now [] within in
    let absent : copy_at caches core c.args.line ≡ None = sym (ap (λ (sets : Sets). copy_in sets c.args.line) looked) ∙ sym c.in-None.ensures.found in
    rw (← c.self.view_is) (sym (tag_at-copy caches core c.args.line ∙ ap (λ (o : Option Line). option_map (λ copy. copy.state) o) absent))

pub returns-in-Some : goal.returns-in-Some
returns-in-Some g c =
    let core = c.args.core.0 in
    let caches = c.self.inside.hierarchy.caches.items in
    let within : core < length caches = rw (← c.self.view_is) at c.requires in
    let looked = (rw c.from.ensures at c.index.ensures) ∙ get_or_default caches core c.index.result.now [] within in
    let found : copy_at caches core c.args.line ≡ Some c.in-Some.copy.now =
    sym (ap (λ (sets : Sets). copy_in sets c.args.line) looked) ∙ sym c.in-Some.ensures.found in
    rw (← c.self.view_is) (sym (tag_at-copy caches core c.args.line ∙ ap (λ (o : Option Line). option_map (λ copy. copy.state) o) found))
