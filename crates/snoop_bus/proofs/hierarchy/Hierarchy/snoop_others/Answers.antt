use Rattle.snoop_bus.proofs.Vocabulary.{arith, ◌≡◌, ◌<◌, ℕ, [], length, map, refl, sym, ap, subst, ◌∙◌, get_or_default, Sets, copy_state_in}
use Rattle.snoop_bus.proofs.Vocabulary.{snoop_column, after_request, SeenBelow, LeftBelow}
use Rattle.snoop_bus.proofs.CacheTags.{tags-requested}
use Rattle.snoop_bus.proofs.NewLemmas.{same_cores}
use Rattle.snoop_bus.proofs.SnoopLemmas.{seen-none, seen-yet, seen-more, seen-here, seen-own, own-unseen, left-none, left-more, left-here, left-own, left-all}
use Rattle.snoop_bus.proofs.SnoopLemmas.{none-held, unseen, unleft}
use Rattle.snoop_bus.proofs.UseLemmas.{ways-set_cache}
use Rattle.snoop_bus.proofs.hierarchy.Hierarchy.snoop_others.Goals.{then-other-core, else-other-core}
use Rattle.snoop_bus.proofs.hierarchy.Hierarchy.snoop_others.Goals as goal

pub loop-other-init : goal.loop-other-init
loop-other-init g c = record {
  seen = seen-none (snoop_column (g.P.Protocol.table c.args.protocol.now) c.args.request) c.args.core c.args.line c.args.self.now.caches.items;
  copies = left-none (snoop_column (g.P.Protocol.table c.args.protocol.now) c.args.request) c.args.core c.args.line c.args.self.now.caches.items;
  memory = refl;
  ways = refl;
}

pub loop-other-preserved : goal.loop-other-preserved
loop-other-preserved g c =
    let on = snoop_column (g.P.Protocol.table c.args.protocol.now) c.args.request in
    let old = c.args.self.now.caches.items in
    let mid = c.loop-other.self.caches.items in
    let other = c.loop-other.other in
    let same : length mid ≡ length old = same_cores old mid c.loop-other.invariant.ways in
    let within : other < length mid = omega arith in
    elim c.if-other-core.branch [
      | then-other-core w ↦
          let at = w.index_mut-cache.ensures.value ∙ get_or_default mid other w.index_mut-cache.result.now [] within in
          rw w.self-is
          (record {
            seen = seen-more on c.args.core c.args.line other old mid _ c.loop-other.invariant.seen
                (seen-here on c.args.core c.args.line other mid w.snoop_one.new.cache within w.if-other-core.true
                (w.snoop_one.ensures.exact ∙ ap (λ (sets : Sets). after_request on c.args.line sets) at));
            copies = left-more on c.args.core c.args.line other old mid _ c.loop-other.invariant.copies
                (left-here on c.args.core c.args.line other mid w.snoop_one.new.cache within w.if-other-core.true (rw at at w.snoop_one.ensures.copies));
            memory = c.loop-other.invariant.memory;
            ways =
                ways-set_cache mid other w.snoop_one.new.cache (w.snoop_one.ensures.ways ∙ ap (λ (sets : Sets). map (λ s. s.ways) sets) at)
                ∙ c.loop-other.invariant.ways;
          })
      | else-other-core w ↦
          rw w.self-is
          (record {
            seen =
                seen-more on c.args.core c.args.line other old mid mid c.loop-other.invariant.seen
                (seen-own on c.args.core c.args.line other mid w.if-other-core.false);
            copies =
                left-more on c.args.core c.args.line other old mid mid c.loop-other.invariant.copies
                (left-own on c.args.core c.args.line other mid w.if-other-core.false);
            memory = c.loop-other.invariant.memory;
            ways = c.loop-other.invariant.ways;
          })
    ]

pub returns-clause-tags : goal.returns-clause-tags
returns-clause-tags g c =
    let on = snoop_column (g.P.Protocol.table c.args.protocol.now) c.args.request in
    let all : c.loop-other.other ≡ length c.args.self.now.caches.items = omega arith in
    tags-requested on c.args.core c.args.line c.args.self.now.caches.items c.loop-other.self.caches.items
    (same_cores c.args.self.now.caches.items c.loop-other.self.caches.items c.loop-other.invariant.ways)
    (subst (λ (n : ℕ). SeenBelow n on c.args.core c.args.line c.args.self.now.caches.items c.loop-other.self.caches.items) all c.loop-other.invariant.seen)

pub returns-clause-own : goal.returns-clause-own
returns-clause-own g c =
    own-unseen
    (snoop_column (g.P.Protocol.table c.args.protocol.now) c.args.request) c.args.core c.args.line c.loop-other.other
    c.args.self.now.caches.items c.loop-other.self.caches.items c.loop-other.invariant.seen

pub returns-clause-copies : goal.returns-clause-copies
returns-clause-copies g c =
    let on = snoop_column (g.P.Protocol.table c.args.protocol.now) c.args.request in
    let all : c.loop-other.other ≡ length c.args.self.now.caches.items = omega arith in
    left-all on c.args.core c.args.line c.args.self.now.caches.items c.loop-other.self.caches.items
    (subst (λ (n : ℕ). LeftBelow n on c.args.core c.args.line c.args.self.now.caches.items c.loop-other.self.caches.items) all c.loop-other.invariant.copies)

pub snoop_one-requires : goal.snoop_one-requires
snoop_one-requires g c =
    let mid = c.loop-other.self.caches.items in
    let same : length mid ≡ length c.args.self.now.caches.items = same_cores c.args.self.now.caches.items mid c.loop-other.invariant.ways in
    let within : c.loop-other.other < length mid = omega arith in
    let at = c.index_mut-cache.ensures.value ∙ get_or_default mid c.loop-other.other c.index_mut-cache.result.now [] within in
    record {
      state =
          c.requires.states c.loop-other.other c.if-other-core.true
          ∙ ap (λ (sets : Sets). copy_state_in sets c.args.line)
          (sym (at
          ∙ seen-yet (snoop_column (g.P.Protocol.table c.args.protocol.now) c.args.request) c.args.core c.args.line
          c.loop-other.other c.args.self.now.caches.items mid c.loop-other.invariant.seen));
    }

pub returns-clause-ways : goal.returns-clause-ways
returns-clause-ways g c = c.loop-other.invariant.ways

pub returns-clause-memory : goal.returns-clause-memory
returns-clause-memory g c = c.loop-other.invariant.memory

-- ---- where no cache has the line

pub returns-then-not-found-clause-tags : goal.returns-then-not-found-clause-tags
returns-then-not-found-clause-tags g c =
    let old = c.args.self.now.caches.items in
    let on = snoop_column (g.P.Protocol.table c.args.protocol.now) c.args.request in
    let none = none-held c.args.line old (sym c.requires.shared ∙ c.if-not-found.true) in
    tags-requested on c.args.core c.args.line old old refl (unseen on c.args.core c.args.line old none (length old))

pub returns-then-not-found-clause-copies : goal.returns-then-not-found-clause-copies
returns-then-not-found-clause-copies g c =
    let old = c.args.self.now.caches.items in
    let none = none-held c.args.line old (sym c.requires.shared ∙ c.if-not-found.true) in
    unleft (snoop_column (g.P.Protocol.table c.args.protocol.now) c.args.request) c.args.core c.args.line old none
