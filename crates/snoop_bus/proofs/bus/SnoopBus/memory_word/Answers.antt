use Rattle.snoop_bus.proofs.Vocabulary.{rules, ◌≡◌, ◌<◌, ◌/◌, ◌%◌, [], Some, None, length, slice_index, sym, ap, ◌∙◌, get_or_default}
use Rattle.snoop_bus.proofs.Vocabulary.{counted_copies_of, Words, line_in, current_words}
use Rattle.snoop_bus.proofs.WordLemmas.{line_below, words-get}
use Rattle.snoop_bus.proofs.CallLemmas.{loc_in}
use Rattle.snoop_bus.proofs.HolderLemmas.{free-held}
use Rattle.snoop_bus.proofs.LookingLemmas.{clean_words}
use Rattle.snoop_bus.proofs.bus.SnoopBus.memory_word.Goals as goal

pub index-requires : goal.index-requires
index-requires g c =
    let within : c.args.loc.0 < c.self.inside.locations =
    loc_in c.self.inside.shape.words c.self.inside.locations
    (counted_copies_of c.self.inside.held c.self.inside.hierarchy.caches.items) c.self.inside.hierarchy.memory.items
    c.args.loc.0 (rw (← c.self.view_is) at c.requires) in
    let below : c.args.loc.0 / c.self.inside.shape.words < length c.self.inside.hierarchy.memory.items =
    line_below c.self.inside.shape.words c.self.inside.locations (length c.self.inside.hierarchy.memory.items)
    c.args.loc.0 c.self.invariant.some_word c.self.invariant.enough_lines within in
    let at : c.from.result < length c.self.inside.hierarchy.memory.items = rw (c.from.ensures, c.line_of-line.ensures.value) below in
    search rules

pub returns-clause-value : goal.returns-clause-value
returns-clause-value g c =
    let words = c.self.inside.shape.words in
    let lines = c.self.inside.hierarchy.memory.items in
    let within : c.args.loc.0 < c.self.inside.locations =
    loc_in words c.self.inside.locations
    (counted_copies_of c.self.inside.held c.self.inside.hierarchy.caches.items) lines c.args.loc.0
    (rw (← c.self.view_is) at c.requires) in
    let below : c.args.loc.0 / words < length lines =
    line_below words c.self.inside.locations (length lines) c.args.loc.0 c.self.invariant.some_word c.self.invariant.enough_lines within in
    let line : c.index.result.now ≡ line_in lines (c.args.loc.0 / words) =
    (rw (c.from.ensures, c.line_of-line.ensures.value) at c.index.ensures) ∙ get_or_default lines (c.args.loc.0 / words) c.index.result.now [] below in
    rw (← c.self.view_is, c.from-2.ensures, c.offset_of-offset.ensures.value)
    (words-get words (line_in lines) c.self.inside.locations c.args.loc.0 within ∙ ap (λ (w : Words). Some (slice_index w (c.args.loc.0 % words))) (sym line))

pub returns-clause-clean : goal.returns-clause-clean
returns-clause-clean g c = λ free clean.
    let words = c.self.inside.shape.words in
    let caches = c.self.inside.hierarchy.caches.items in
    let lines = c.self.inside.hierarchy.memory.items in
    let held : c.self.inside.held ≡ None = free-held c.self.inside.held (rw (← c.self.view_is) at free) in
    let within : c.args.loc.0 < c.self.inside.locations =
    loc_in words c.self.inside.locations (counted_copies_of c.self.inside.held caches) lines c.args.loc.0 (rw (← c.self.view_is) at c.requires) in
    let below : c.args.loc.0 / words < length lines =
    line_below words c.self.inside.locations (length lines) c.args.loc.0 c.self.invariant.some_word c.self.invariant.enough_lines within in
    let line : c.index.result.now ≡ line_in lines (c.args.loc.0 / words) =
    (rw (c.from.ensures, c.line_of-line.ensures.value) at c.index.ensures) ∙ get_or_default lines (c.args.loc.0 / words) c.index.result.now [] below in
    let seen = clean_words caches lines (c.args.loc.0 / words) (rw held at c.self.invariant.coherent) below (rw (← c.self.view_is) at clean) in
    rw (← c.self.view_is, held, c.from-2.ensures, c.offset_of-offset.ensures.value)
    (words-get words (current_words caches lines) c.self.inside.locations c.args.loc.0 within
    ∙ ap (λ (w : Words). Some (slice_index w (c.args.loc.0 % words))) (sym (line ∙ seen)))
