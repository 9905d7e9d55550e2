use Rattle.snoop_bus.proofs.Vocabulary.{◌≡◌, ◌/◌, ◌%◌, ◌<◌, Option, Some, None, length, refl, ap, ◌∙◌, Locked, Transaction, words_in_lines}
use Rattle.snoop_bus.proofs.Vocabulary.{copy_at, held_by, current_words}
use Rattle.snoop_bus.proofs.WordLemmas.{words-set}
use Rattle.snoop_bus.proofs.LineLemmas.{length-line}
use Rattle.snoop_bus.proofs.NewLemmas.{same_cores, bus-set}
use Rattle.snoop_bus.proofs.AcquireAsked.{locked_written}
use Rattle.snoop_bus.proofs.HolderLemmas.{holds, locked_real}
use Rattle.snoop_bus.proofs.bus.SnoopBus.complete_write.Goals as goal

pub returns-clause-words : goal.returns-clause-words
returns-clause-words g c =
    let held =
    holds c.self.inside.hierarchy.caches.items c.self.inside.hierarchy.memory.items c.self.inside.shape
    c.self.inside.locations c.args.core c.args.loc Locked c.self.inside.held
    (rw (← c.self.view_is) at c.requires.holds) c.self.invariant.awaited c.self.invariant.placed in
    let real = locked_real held.0 (copy_at c.self.inside.hierarchy.caches.items c.args.core.0 (c.args.loc.0 / c.self.inside.shape.words)) held.1.awaits in
    let is : c.self.inside.held
    ≡ Some (held_by c.args.core c.args.loc Locked (c.args.loc.0 / c.self.inside.shape.words) None) =
    held.1.held_is
    ∙ ap (λ (x : Option Transaction). Some (held_by c.args.core c.args.loc Locked (c.args.loc.0 / c.self.inside.shape.words) x)) real.0 in
    let was = rw is at c.self.invariant in
    let copies = rw (c.target_of-target.ensures.value) at c.write.ensures.copies in
    let room : c.args.loc.0 % c.self.inside.shape.words
    < length
    (current_words c.self.inside.hierarchy.caches.items c.self.inside.hierarchy.memory.items (c.args.loc.0 / c.self.inside.shape.words)) =
    rw (
      was.lines (c.args.loc.0 / c.self.inside.shape.words) held.1.within,
      length-line c.self.inside.shape.words
          (words_in_lines c.self.inside.shape.words
          (current_words c.self.inside.hierarchy.caches.items c.self.inside.hierarchy.memory.items)
          c.self.inside.locations)
          (c.args.loc.0 / c.self.inside.shape.words),
    )
    (rw c.target_of-target.ensures.value at c.target_of-target.ensures.within) in
    let sets =
    locked_written c.self.inside.hierarchy.caches.items c.write.new.self.caches.items
    c.self.inside.hierarchy.memory.items c.args.core.0 (c.args.loc.0 / c.self.inside.shape.words)
    (c.args.loc.0 % c.self.inside.shape.words) c.args.value was.coherent held.1.within room real.1 copies in
    rw (← c.self.view_is, is, c.write.ensures.memory)
    (words-set c.self.inside.shape.words c.self.inside.locations (length c.self.inside.hierarchy.memory.items)
    (current_words c.self.inside.hierarchy.caches.items c.self.inside.hierarchy.memory.items)
    (current_words c.write.new.self.caches.items c.self.inside.hierarchy.memory.items) c.args.loc.0 c.args.value
    c.self.invariant.some_word c.self.invariant.enough_lines held.1.loc_in sets.offset_in sets.lines)

pub invariant_of-self : goal.invariant_of-self
invariant_of-self g c =
    let held =
    holds c.self.inside.hierarchy.caches.items c.self.inside.hierarchy.memory.items c.self.inside.shape
    c.self.inside.locations c.args.core c.args.loc Locked c.self.inside.held
    (rw (← c.self.view_is) at c.requires.holds) c.self.invariant.awaited c.self.invariant.placed in
    let real = locked_real held.0 (copy_at c.self.inside.hierarchy.caches.items c.args.core.0 (c.args.loc.0 / c.self.inside.shape.words)) held.1.awaits in
    let is : c.self.inside.held
    ≡ Some (held_by c.args.core c.args.loc Locked (c.args.loc.0 / c.self.inside.shape.words) None) =
    held.1.held_is
    ∙ ap (λ (x : Option Transaction). Some (held_by c.args.core c.args.loc Locked (c.args.loc.0 / c.self.inside.shape.words) x)) real.0 in
    let was = rw is at c.self.invariant in
    let copies = rw (c.target_of-target.ensures.value) at c.write.ensures.copies in
    let room : c.args.loc.0 % c.self.inside.shape.words
    < length
    (current_words c.self.inside.hierarchy.caches.items c.self.inside.hierarchy.memory.items (c.args.loc.0 / c.self.inside.shape.words)) =
    rw (
      was.lines (c.args.loc.0 / c.self.inside.shape.words) held.1.within,
      length-line c.self.inside.shape.words
          (words_in_lines c.self.inside.shape.words
          (current_words c.self.inside.hierarchy.caches.items c.self.inside.hierarchy.memory.items)
          c.self.inside.locations)
          (c.args.loc.0 / c.self.inside.shape.words),
    )
    (rw c.target_of-target.ensures.value at c.target_of-target.ensures.within) in
    let sets =
    locked_written c.self.inside.hierarchy.caches.items c.write.new.self.caches.items
    c.self.inside.hierarchy.memory.items c.args.core.0 (c.args.loc.0 / c.self.inside.shape.words)
    (c.args.loc.0 % c.self.inside.shape.words) c.args.value was.coherent held.1.within room real.1 copies in
    bus-set c.self.inside.shape c.self.inside.locations c.self.inside.hierarchy c.write.new.self
    (Some (held_by c.args.core c.args.loc Locked (c.args.loc.0 / c.self.inside.shape.words) None)) c.args.loc.0
    c.args.value was (ap length c.write.ensures.memory) held.1.loc_in (rw c.write.ensures.memory sets)
    c.write.ensures.ways

pub returns-clause-coherent : goal.returns-clause-coherent
returns-clause-coherent g c = (invariant_of-self g c).coherent

pub returns-clause-contents : goal.returns-clause-contents
returns-clause-contents g c = rw (← c.self.view_is) c.write.ensures.tags

pub returns-clause-memory : goal.returns-clause-memory
returns-clause-memory g c = rw (← c.self.view_is) c.write.ensures.memory

pub returns-clause-machine : goal.returns-clause-machine
returns-clause-machine g c =
    rw (← c.self.view_is)
    (record {
      rows = refl;
      shape = refl;
      cores = same_cores c.self.inside.hierarchy.caches.items c.write.new.self.caches.items c.write.ensures.ways;
      locations = refl;
    })

pub returns-clause-nothing_awaited : goal.returns-clause-nothing_awaited
returns-clause-nothing_awaited g c =
    let held =
    holds c.self.inside.hierarchy.caches.items c.self.inside.hierarchy.memory.items c.self.inside.shape
    c.self.inside.locations c.args.core c.args.loc Locked c.self.inside.held
    (rw (← c.self.view_is) at c.requires.holds) c.self.invariant.awaited c.self.invariant.placed in
    let real = locked_real held.0 (copy_at c.self.inside.hierarchy.caches.items c.args.core.0 (c.args.loc.0 / c.self.inside.shape.words)) held.1.awaits in
    let is : c.self.inside.held
    ≡ Some (held_by c.args.core c.args.loc Locked (c.args.loc.0 / c.self.inside.shape.words) None) =
    held.1.held_is
    ∙ ap (λ (x : Option Transaction). Some (held_by c.args.core c.args.loc Locked (c.args.loc.0 / c.self.inside.shape.words) x)) real.0 in
    rw (← c.self.view_is, is) refl
