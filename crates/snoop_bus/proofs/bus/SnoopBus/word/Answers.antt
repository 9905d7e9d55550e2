use Rattle.snoop_bus.proofs.Vocabulary.{rules, ◌≡◌, ◌<◌, ◌∙◌, ◌/◌, [], length, get_or_default, counted_copies_of, current_words}
use Rattle.snoop_bus.proofs.WordLemmas.{line_below, words-get}
use Rattle.snoop_bus.proofs.CallLemmas.{loc_in}
use Rattle.snoop_bus.proofs.LookingLemmas.{seen_words}
use Rattle.snoop_bus.proofs.bus.SnoopBus.word.Goals as goal

pub index-requires : goal.index-requires
index-requires g c =
    let within : c.args.loc.0 < c.self.inside.locations =
    loc_in c.self.inside.shape.words c.self.inside.locations
    (counted_copies_of c.self.inside.held c.self.inside.hierarchy.caches.items) c.self.inside.hierarchy.memory.items
    c.args.loc.0 (rw (← c.self.view_is) at c.requires) in
    let below : c.args.loc.0 / c.self.inside.shape.words < length c.self.inside.hierarchy.memory.items =
    line_below c.self.inside.shape.words c.self.inside.locations (length c.self.inside.hierarchy.memory.items)
    c.args.loc.0 c.self.invariant.some_word c.self.invariant.enough_lines within in
    let at : c.from.result < length c.self.inside.hierarchy.memory.items = rw (c.from.ensures, c.line_of-line.ensures.value) below in
    search rules

pub returns : goal.returns
returns g c =
    let words = c.self.inside.shape.words in
    let caches = c.self.inside.hierarchy.caches.items in
    let lines = c.self.inside.hierarchy.memory.items in
    let within : c.args.loc.0 < c.self.inside.locations =
    loc_in words c.self.inside.locations (counted_copies_of c.self.inside.held caches) lines c.args.loc.0 (rw (← c.self.view_is) at c.requires) in
    let below : c.args.loc.0 / words < length lines =
    line_below words c.self.inside.locations (length lines) c.args.loc.0 c.self.invariant.some_word c.self.invariant.enough_lines within in
    let line =
    (rw (c.from.ensures, c.line_of-line.ensures.value) at c.index.ensures)
    ∙ get_or_default lines (c.args.loc.0 / words) c.index.result.now [] below in
    let seen : c.unwrap_or-words.result ≡ current_words (counted_copies_of c.self.inside.held caches) lines (c.args.loc.0 / words) =
    rw (c.unwrap_or-words.ensures, c.or.ensures, c.kept_words.ensures, c.copied_words.ensures, c.deref.ensures.value, c.line_of-line.ensures.value, line)
    (seen_words caches lines c.self.inside.held (c.args.loc.0 / words) c.self.invariant.coherent c.self.invariant.awaited below) in
    rw (← c.self.view_is, c.from-2.ensures, c.offset_of-offset.ensures.value, seen)
    (words-get words (current_words (counted_copies_of c.self.inside.held caches) lines) c.self.inside.locations c.args.loc.0 within)
