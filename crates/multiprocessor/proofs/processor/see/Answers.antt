use Rattle.multiprocessor.proofs.Vocabulary.{◌∙◌, refl, sym, subst, slice_index, words_of, buffered_entries, MayMake, writes_to}
use Rattle.multiprocessor.proofs.CoreLemmas.{sees_buffered, sees_memory, index-got}
use Rattle.multiprocessor.proofs.ActedLemmas.{whole-none}
use Rattle.multiprocessor.proofs.Acting.{reads, forwarded}
use Rattle.multiprocessor.proofs.CacheUses.{answered, unanswered, forwards}
use Rattle.multiprocessor.proofs.processor.see.Goals as goal

pub read-word-requires : goal.read-word-requires
read-word-requires g c =
    let items = c.args.stores.now.items in
    let pending = buffered_entries c.args.turn.core.0 c.args.stores.now in
    let none = unanswered c.args.turn.core.0 c.args.loc.0 items c.in-None.ensures in
    record {
      access = record {
        core = c.requires.access.core;
        free = subst (MayMake c.args.turn c.args.bus.now) (sym (reads c.args.loc pending none)) c.requires.access.free;
        known = c.requires.access.known;
      };
    }

pub returns-in-Some-clause-value : goal.returns-in-Some-clause-value
returns-in-Some-clause-value g c =
    sees_buffered c.args.turn.core.0 c.args.loc.0 (slice_index (words_of c.args.bus.now) c.args.loc.0) c.in-Some.value c.args.stores.now.items c.in-Some.ensures

pub returns-in-Some-clause-caches : goal.returns-in-Some-clause-caches
returns-in-Some-clause-caches g c =
    let pending = buffered_entries c.args.turn.core.0 c.args.stores.now in
    let found = answered c.args.turn.core.0 c.args.loc.0 c.in-Some.value c.args.stores.now.items c.in-Some.ensures in
    let whole = whole-none c.args.turn c.args.bus.now _ (sym (forwarded c.args.loc (writes_to c.args.loc.0) pending found)) c.requires.access.free in
    rw whole (forwards c.args.bus.now pending c.args.turn.core.0 c.args.loc.0 found)

pub returns-in-Some-clause-holder : goal.returns-in-Some-clause-holder
returns-in-Some-clause-holder g c =
    let pending = buffered_entries c.args.turn.core.0 c.args.stores.now in
    let found = answered c.args.turn.core.0 c.args.loc.0 c.in-Some.value c.args.stores.now.items c.in-Some.ensures in
    let whole = whole-none c.args.turn c.args.bus.now _ (sym (forwarded c.args.loc (writes_to c.args.loc.0) pending found)) c.requires.access.free in
    rw whole refl

pub returns-in-None-clause-value : goal.returns-in-None-clause-value
returns-in-None-clause-value g c =
    sym (index-got (words_of c.args.bus.now) c.args.loc.0 _ c.read-word.ensures.word)
    ∙ sees_memory c.args.turn.core.0 c.args.loc.0 (slice_index (words_of c.args.bus.now) c.args.loc.0) c.args.stores.now.items c.in-None.ensures

pub returns-in-None-clause-caches : goal.returns-in-None-clause-caches
returns-in-None-clause-caches g c =
    let pending = buffered_entries c.args.turn.core.0 c.args.stores.now in
    let none = unanswered c.args.turn.core.0 c.args.loc.0 c.args.stores.now.items c.in-None.ensures in
    rw (none, ← reads c.args.loc pending none) c.read-word.ensures.made.caches
