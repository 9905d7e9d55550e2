use Rattle.snoop_bus.proofs.Vocabulary.{rules, arith, ◌≡◌, ◌<◌, [], length, map, ℕ, subst, ◌∙◌, get_or_default, with_items_is, nat_lt}
use Rattle.snoop_bus.proofs.Vocabulary.{if◌then◌else◌, cleaned, sets_of, tags_of}
use Rattle.snoop_bus.proofs.NewLemmas.{same_cores}
use Rattle.snoop_bus.proofs.SettleAll.{settled_at, settled_tags, own_now, others_stay, keeps-more, clean-more, tags-more, all_clean, tags-all, length-tags}
use Rattle.snoop_bus.proofs.hierarchy.Hierarchy.settle.Goals as goal

pub loop-core-preserved : goal.loop-core-preserved
loop-core-preserved g c =
    let old = c.args.self.now.caches.items in
    let mid = c.loop-core.self.caches.items in
    let memory = c.loop-core.self.memory.items in
    let core = c.loop-core.core in
    let same : length mid ≡ length old = same_cores old mid c.loop-core.invariant.words.ways in
    let within : core < length mid = omega arith in
    let tagged : core < length (tags_of mid) = rw (length-tags mid) within in
    let here = c.index_mut-cache.ensures.value ∙ get_or_default mid core c.index_mut-cache.result.now [] within in
    let ms = with_items_is c.loop-core.self.memory c.settle_cache.new.memory (search rules) in
    let copies = rw here at c.settle_cache.ensures.copies in
    let size : length c.settle_cache.new.memory ≡ length memory = search rules in
    rw ms
    (record {
      words = keeps-more old mid _ c.args.self.now.memory.items memory c.settle_cache.new.memory c.loop-core.invariant.size c.loop-core.invariant.words
          (settled_at mid memory c.settle_cache.new.memory core c.settle_cache.new.cache
          c.loop-core.invariant.words.coherent within size copies
          (rw (here, c.deref_mut.ensures.value) at c.settle_cache.ensures.memory)
          (rw here at c.settle_cache.ensures.ways));
      size = size ∙ c.loop-core.invariant.size;
      clean =
          clean-more mid _ core c.loop-core.invariant.clean
          (λ k. own_now mid core c.settle_cache.new.cache within k ∙ copies k)
          (λ i k d. others_stay mid core c.settle_cache.new.cache within i k d);
      tags =
          tags-more (tags_of old) (tags_of mid) _ core tagged c.loop-core.invariant.tags
          (settled_tags mid core c.settle_cache.new.cache (rw here at c.settle_cache.ensures.tags));
    })

pub settle_cache-requires-clause-within : goal.settle_cache-requires-clause-within
settle_cache-requires-clause-within g c =
    let mid = c.loop-core.self.caches.items in
    let same : length mid ≡ length c.args.self.now.caches.items = same_cores c.args.self.now.caches.items mid c.loop-core.invariant.words.ways in
    let within : c.loop-core.core < length mid = omega arith in
    let here = c.index_mut-cache.ensures.value ∙ get_or_default mid c.loop-core.core c.index_mut-cache.result.now [] within in
    λ k b. rw here (c.loop-core.invariant.words.coherent.within k c.loop-core.core (rw c.deref_mut.ensures.value at b))

pub settle_cache-requires-clause-few : goal.settle_cache-requires-clause-few
settle_cache-requires-clause-few g c = rw (c.deref_mut.ensures.value, c.loop-core.invariant.size) c.requires.few

pub returns-clause-memory : goal.returns-clause-memory
returns-clause-memory g c =
    let same : length c.loop-core.self.caches.items ≡ length c.args.self.now.caches.items =
    same_cores c.args.self.now.caches.items c.loop-core.self.caches.items c.loop-core.invariant.words.ways in
    all_clean c.loop-core.self.caches.items c.args.self.now.memory.items c.args.self.now.caches.items
    c.loop-core.self.memory.items c.loop-core.invariant.size c.loop-core.invariant.words
    (λ i k b. c.loop-core.invariant.clean i k (omega arith))

pub returns-clause-tags : goal.returns-clause-tags
returns-clause-tags g c =
    let same : length c.loop-core.self.caches.items ≡ length c.args.self.now.caches.items =
    same_cores c.args.self.now.caches.items c.loop-core.self.caches.items c.loop-core.invariant.words.ways in
    let all : c.loop-core.core ≡ length (tags_of c.args.self.now.caches.items) = rw (length-tags c.args.self.now.caches.items) (omega arith) in
    tags-all (tags_of c.args.self.now.caches.items) (tags_of c.loop-core.self.caches.items)
    (rw (length-tags c.args.self.now.caches.items, length-tags c.loop-core.self.caches.items) same)
    (subst (λ (n : ℕ).
    (i : ℕ)
    → sets_of (tags_of c.loop-core.self.caches.items) i
    ≡ (if nat_lt i n
    then map cleaned (sets_of (tags_of c.args.self.now.caches.items) i)
    else sets_of (tags_of c.args.self.now.caches.items) i))
    all c.loop-core.invariant.tags)
