use Rattle.tso_report.specs.inner.Arrays.{IsBegun}
use Rattle.search_report.proofs.Vocabulary.{◌∙◌, ◌∷◌, ◌+◌, ap, sym, subst, drop, drop_all, drop_more, map}
use Rattle.search_report.proofs.items.array_of.Goals as goal

pub loop-item-preserved : goal.loop-item-preserved
loop-item-preserved g c =
    let f = g.T.Valued.valued c.args.test.now in
    let xs = c.args.items.now in
    let i = c.loop-item.item-index in
    let still = ap (map f) (drop_more xs i _ c.loop-item-test.true ∙ ap (λ x. x ∷ drop (i + 1) xs) (sym c.item-item.is)) in
    c.with-values.ensures _ _ _ (subst (λ ds. IsBegun c.loop-item.values ds (map f xs)) still c.loop-item.invariant) c.value.ensures

pub returns : goal.returns
returns g c =
    let f = g.T.Valued.valued c.args.test.now in
    let none = ap (map f) (drop_all c.loop-item.item-index c.args.items.now c.loop-item-test.false) in
    c.value-2.ensures _ (subst (λ ds. IsBegun c.loop-item.values ds (map f c.args.items.now)) none c.loop-item.invariant)
