use Rattle.std.proofs.Common.{◌∙◌, ap, sym, None, fold}
use Rattle.std.proofs.lemmas.Iterator.Consumers.{YieldsList-from_rest, YieldsList-end}
use Rattle.store_buffer.specs.inner.Newest.{newer}
use Rattle.store_buffer.proofs.NewestLemmas.{newest_for-fold, newer-found}
use Rattle.store_buffer.proofs.StoreBuffer.newest_for.Goals as goal

pub returns : goal.returns
returns c =
    let items = c.self.inside.ring.items in
    let over =
    YieldsList-end
    (YieldsList-from_rest items (c.into_iter-p-iterator.ensures.into_iter_gives ∙ c.iter-p-items.ensures.rest))
    c.loop-p.yielded _ c.loop-p.yielded_by _ _ c.in-None.is c.next.ensures.steps in
    rw (← c.self.view_is) (c.loop-p.invariant ∙ (ap (fold (newer c.args.loc.0) None) over.0 ∙ newest_for-fold c.args.loc.0 items))

pub loop-p-preserved-then-eq : goal.loop-p-preserved-then-eq
loop-p-preserved-then-eq c =
    newer-found c.args.loc.0 c.loop-p.newest c.loop-p.yielded c.in-Some.p c.loop-p.invariant (sym c.eq.ensures ∙ c.if-eq.true)
