use Rattle.order_builder.proofs.Vocabulary.{sym, ◌∙◌, [], ap, arith, List, ℕ, bytes_eq, location_named}
use Rattle.order_builder.proofs.LineLemmas.{first_at, first_none}
use Rattle.order_builder.proofs.entries.location_named.Goals as goal

pub returns-then-eq : goal.returns-then-eq
unfolding location_named
returns-then-eq c =
    sym
    (first_at (λ other. bytes_eq other c.args.name.now) c.args.test.now.locations c.loop-loc.loc []
    (omega (arith, c.loop-loc-test.true, c.locations-loc-end.ensures.value)) c.loop-loc.invariant
    (ap (λ (l : List ℕ). bytes_eq l c.args.name.now) (sym (c.as_bytes.ensures.value ∙ c.location_name.ensures)) ∙ sym c.if-eq.ensures))

pub returns : goal.returns
unfolding location_named
returns c =
    sym
    (first_none (λ other. bytes_eq other c.args.name.now) c.args.test.now.locations c.loop-loc.loc []
    (omega (arith, c.loop-loc-test.false, c.locations-loc-end.ensures.value, c.loop-loc.auto.loc-end))
    c.loop-loc.invariant)
