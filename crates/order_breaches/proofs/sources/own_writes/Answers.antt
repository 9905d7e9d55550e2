use Rattle.order_breaches.proofs.Vocabulary.{◌≡◌, ◌+◌, ℕ, length, length-append, ap, sym, ◌∙◌, arith, slice_get_within, kept_in}
use Rattle.std.proofs.Common.{rules}
use Rattle.order_breaches.proofs.OwnWrites.{sources-step, latest-step, latest-none, none-sooner, known-here, none-kept}
use Rattle.order_breaches.proofs.sources.own_writes.Goals as goal

pub loop-e-init : goal.loop-e-init
loop-e-init c = record {
  latest = λ loc.
      latest-none c.args.made.now loc _
      (ap (λ t. kept_in t loc) (c.deref_mut-latest.ensures.value ∙ c.in_ok-room.ensures.items_if_clones_equal (λ y h. search rules))
      ∙ none-kept _ loc);
  sources = λ k e l. none-sooner k l;
  count = ap length c.new-sources.ensures.items;
}

pub note_write-requires : goal.note_write-requires
note_write-requires c write =
    let size : length c.loop-e.latest ≡ c.args.locations = let n = c.loop-e.auto.latest in
    let m = c.deref_mut-latest.ensures.len in
    let k = c.in_ok-room.ensures.len in
    let f = c.from.ensures in
    omega (arith, n, m, k, f) in
    known-here c.args.made.now c.loop-e.e-index _ c.loop-e-test.true (length c.loop-e.latest) c.args.locations size
    (λ k e f. (c.requires.within.1 k e f).known) write

pub loop-e-preserved : goal.loop-e-preserved
loop-e-preserved c =
    let inv = c.loop-e.invariant in
    let items = c.in_ok-push.ensures.items in
    let size : length c.loop-e.latest ≡ c.args.locations = let n = c.loop-e.auto.latest in
    let m = c.deref_mut-latest.ensures.len in
    let k = c.in_ok-room.ensures.len in
    let f = c.from.ensures in
    omega (arith, n, m, k, f) in
    record {
      latest = latest-step c.args.made.now c.requires.ascends c.loop-e.e-index _ c.loop-e-test.true c.loop-e.latest c.note_write.new.latest c.note_write.ensures
          (λ k e f w. let l = (c.requires.within.1 k e f).known w in omega (arith, l, size)) inv.latest;
      sources =
          sources-step c.args.made.now c.requires.ascends c.loop-e.e-index _ c.loop-e-test.true c.loop-e.latest
          inv.latest c.loop-e.sources.items c.push.new.self.items
          inv.count c.own_write.result c.own_write.ensures items inv.sources;
      count = ap length items ∙ length-append c.loop-e.sources.items _ ∙ ap (λ n. n + 1) inv.count;
    }

pub returns : goal.returns
returns c k e f = c.loop-e.invariant.sources k e (let here = slice_get_within c.args.made.now k e f in omega (arith, here, c.loop-e-test.false)) f
