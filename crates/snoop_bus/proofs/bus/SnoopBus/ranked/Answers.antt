use Rattle.snoop_bus.proofs.Vocabulary.{arith, nat_tests, ◌≡◌, ◌<◌, ◌≤◌, ◌∙◌, [], length, contents, option_map, slice_get, slice_index_or}
use Rattle.snoop_bus.proofs.Vocabulary.{sym, ap, words_of, cache_of}
use Rattle.snoop_bus.specs.inner.Accesses.{copies_of}
use Rattle.snoop_bus.proofs.LookingLemmas.{as_cached, cache_here, found_words, line_ranked, none_ranked, no_core, no_set}
use Rattle.snoop_bus.proofs.bus.SnoopBus.ranked.Goals as goal

pub returns-in-Some : goal.returns-in-Some
returns-in-Some g c =
    let core = c.args.core.0 in
    let caches = c.self.inside.hierarchy.caches.items in
    let got = rw (c.from.ensures, c.deref.ensures.value) at c.in_ok-cache.ensures.lookup in
    let here : c.in_ok-cache.cache.now ≡ cache_of caches core = cache_here caches core c.in_ok-cache.cache.now got.0 got.1 in
    let set : c.args.set < length c.in_ok-cache.cache.now = rw (c.from-2.ensures, c.len.ensures.value) at c.if-from-len.false in
    let ranked : c.ranked.result ≡ slice_get (copies_of c.args.self.now core c.args.set).copies c.args.rank =
    rw (← c.self.view_is) (c.ranked.ensures.value
    ∙ ap (λ s. slice_get s.copies c.args.rank) (c.set.ensures ∙ ap (λ sets. slice_index_or sets c.args.set (contents [] 1)) here)) in
    sym (ap (option_map as_cached) c.in-Some.is)
    ∙ line_ranked c.args.self.now.shape.words core c.args.set c.args.rank (words_of c.args.self.now) c.args.self.now.caches c.ranked.result ranked
    (rw (← c.self.view_is)
    (found_words c.self.inside.shape c.self.inside.locations caches c.self.inside.hierarchy.memory.items
    c.self.inside.held core c.args.set c.ranked.result c.set.result.now c.self.invariant
    (rw here at c.len.ensures.home) (rw here at set) (rw here at c.set.ensures) c.ranked.ensures.found))

pub returns-in-None : goal.returns-in-None
returns-in-None g c =
    let core = c.args.core.0 in
    let caches = c.self.inside.hierarchy.caches.items in
    let got = rw (c.from.ensures, c.deref.ensures.value) at c.in_ok-cache.ensures.lookup in
    let here : c.in_ok-cache.cache.now ≡ cache_of caches core = cache_here caches core c.in_ok-cache.cache.now got.0 got.1 in
    let set : c.args.set < length c.in_ok-cache.cache.now = rw (c.from-2.ensures, c.len.ensures.value) at c.if-from-len.false in
    let ranked : c.ranked.result ≡ slice_get (copies_of c.args.self.now core c.args.set).copies c.args.rank =
    rw (← c.self.view_is) (c.ranked.ensures.value
    ∙ ap (λ s. slice_get s.copies c.args.rank) (c.set.ensures ∙ ap (λ sets. slice_index_or sets c.args.set (contents [] 1)) here)) in
    sym (ap (option_map as_cached) c.in-None.is)
    ∙ line_ranked c.args.self.now.shape.words core c.args.set c.args.rank (words_of c.args.self.now) c.args.self.now.caches c.ranked.result ranked
    (rw (← c.self.view_is)
    (found_words c.self.inside.shape c.self.inside.locations caches c.self.inside.hierarchy.memory.items
    c.self.inside.held core c.args.set c.ranked.result c.set.result.now c.self.invariant
    (rw here at c.len.ensures.home) (rw here at set) (rw here at c.set.ensures) c.ranked.ensures.found))

pub returns-in_err-cache : goal.returns-in_err-cache
returns-in_err-cache g c =
    let core = c.args.core.0 in
    let got = rw (c.from.ensures, c.deref.ensures.value) at c.in_err-cache.ensures.lookup in
    let past : length c.self.inside.hierarchy.caches.items ≤ core = let far = got.0 in grind (arith, nat_tests) in
    c.from_residual.ensures
    ∙ none_ranked c.args.self.now.shape.words core c.args.set c.args.rank (words_of c.args.self.now)
    c.args.self.now.caches
    (rw (← c.self.view_is) (no_core c.self.inside.hierarchy.caches.items core c.args.set c.args.rank past))

pub returns-then-from-len : goal.returns-then-from-len
returns-then-from-len g c =
    let core = c.args.core.0 in
    let caches = c.self.inside.hierarchy.caches.items in
    let got = rw (c.from.ensures, c.deref.ensures.value) at c.in_ok-cache.ensures.lookup in
    let here : c.in_ok-cache.cache.now ≡ cache_of caches core = cache_here caches core c.in_ok-cache.cache.now got.0 got.1 in
    let past : length c.in_ok-cache.cache.now ≤ c.args.set = rw (c.from-2.ensures, c.len.ensures.value) at c.if-from-len.true in
    none_ranked c.args.self.now.shape.words core c.args.set c.args.rank (words_of c.args.self.now)
    c.args.self.now.caches
    (rw (← c.self.view_is) (no_set caches core c.args.set c.args.rank (rw here at past)))
