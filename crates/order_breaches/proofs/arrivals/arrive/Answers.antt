use Rattle.order_breaches.proofs.Vocabulary.{◌<◌, length, sym, ◌∙◌, arith, inl, inr, slice_get_within}
use Rattle.order_breaches.proofs.Coming.{some-there, none-there, came-before, came-not, comes, not-extra}
use Rattle.order_breaches.proofs.arrivals.arrive.Goals as goal

pub returns-then-is_some-clause-found : goal.returns-then-is_some-clause-found
returns-then-is_some-clause-found c order at here before come =
    let e = c.in-Some.ensures.found in
    let v = some-there _ (sym c.is_some.ensures ∙ c.if-is_some.true) in
    let twice = came-before c.args.shape.now order at c.args.came.now come c.in-Some.i e.0 c.args.x.now v.0 e.1 e.2 (sym c.kept.ensures ∙ v.1) in
    (not-extra c.args.shape.now c.args.x.now c.in-Some.i e.0 e.1 e.2, (at, record { stands = here; holds = inr twice; earliest = before }))

pub bounds-came-i : goal.bounds-came-i
bounds-came-i c =
    let e = c.in-Some.ensures.found in
    let l = slice_get_within c.args.shape.now c.in-Some.i e.0 e.1 in
    omega (arith, l, c.requires.size)

pub returns-clause-none : goal.returns-clause-none
returns-clause-none c order at here come _ =
    let e = c.in-Some.ensures.found in
    let none = sym c.kept.ensures ∙ none-there _ (sym c.is_some.ensures ∙ c.if-is_some.false) in
    let l = slice_get_within c.args.shape.now c.in-Some.i e.0 e.1 in
    let within : c.in-Some.i < length c.args.came.now = omega (arith, l, c.requires.size) in (
      comes c.args.shape.now order at c.args.came.now come c.in-Some.i e.0 c.args.x.now e.1 e.2 here none within,
      λ s. elim s [
        | inl extra ↦ not-extra c.args.shape.now c.args.x.now c.in-Some.i e.0 e.1 e.2 extra
        | inr twice ↦ came-not c.args.shape.now order c.args.slots.now at c.args.came.now c.requires.index come c.in-Some.i e.0 c.args.x.now e.1 e.2 none twice
      ],
    )
