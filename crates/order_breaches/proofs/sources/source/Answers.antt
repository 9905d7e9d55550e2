use Rattle.order_breaches.proofs.Vocabulary.{subst, sym, IsSource}
use Rattle.order_breaches.proofs.Actions.{same_but_value-parts}
use Rattle.order_breaches.proofs.OwnWrites.{source-same}
use Rattle.order_breaches.proofs.sources.source.Goals as goal

pub returns-in-Some : goal.returns-in-Some
returns-in-Some c _ =
    let e = c.in-Some.ensures.found in
    let same = same_but_value-parts e.0 c.args.x.now e.2 in
    subst (λ o. IsSource c.args.made.now c.args.x.now o) (sym c.kept.ensures)
    (source-same c.args.made.now e.0 c.args.x.now same.action same.loc _ (c.requires.sources c.in-Some.i e.0 e.1))
