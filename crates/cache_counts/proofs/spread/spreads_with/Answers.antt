use Rattle.std.proofs.Common.{All, List, [], ◌∷◌, ◌+◌, subst, sym}
use Rattle.std.proofs.lemmas.List.Elements.{All-append, All-cons, All-nil}
use Rattle.cache_counts.specs.declared.spread.Spread.{Spread}
use Rattle.cache_counts.specs.inner.Bounds.{IsSumOf}
use Rattle.cache_counts.proofs.Spreads.{laid-in}
use Rattle.cache_counts.proofs.spread.spreads_with.Goals as goal

pub loop-place-preserved : goal.loop-place-preserved
loop-place-preserved c =
    let next = IsSumOf (c.args.runs + 1) in
    record {
      laid =
          laid-in c.args.spreads.now c.args.numbers.now c.loop-place.place _ c.loop-place.next.items
          c.push.new.self.items c.spread_with.result c.spread_at.result
          c.loop-place-test.true c.spread_at.ensures c.spread_with.ensures.value c.in_ok-push.ensures.items c.loop-place.invariant.laid;
      few = subst (λ (list : List Spread). All next list) (sym c.in_ok-push.ensures.items)
          (All-append next c.loop-place.next.items (c.spread_with.result ∷ []) c.loop-place.invariant.few
          (All-cons next c.spread_with.result [] c.spread_with.ensures.few (All-nil next)));
    }
