use Rattle.order_breaches.proofs.Vocabulary.{not, ap, sym, ◌∙◌, slice_get-get_or, HasNotCome}
use Rattle.order_breaches.proofs.Firsts.{none_at_all, none_in_nothing}
use Rattle.order_breaches.proofs.Coming.{none-there, not-none-there, came-too}
use Rattle.order_breaches.proofs.arrivals.first_missing.Goals as goal

pub loop-i-init : goal.loop-i-init
loop-i-init c = none_in_nothing c.args.shape.now (HasNotCome c.args.came.now)

pub returns-then-is_none-clause-found : goal.returns-then-is_none-clause-found
returns-then-is_none-clause-found c = (
  c.loop-i.i,
  record {
    stands = slice_get-get_or c.args.shape.now c.loop-i.i _ c.loop-i-test.true;
    holds = sym c.kept.ensures ∙ none-there c.kept.result (c.is_none.ensures ∙ ap not c.if-is_none.true);
    earliest = c.loop-i.invariant;
  },
)

pub loop-i-preserved : goal.loop-i-preserved
loop-i-preserved c =
    came-too c.args.shape.now c.args.came.now c.loop-i.i c.loop-i.invariant
    (λ e. not-none-there c.kept.result (c.is_none.ensures ∙ ap not c.if-is_none.false) (c.kept.ensures ∙ e))

pub returns-clause-none : goal.returns-clause-none
returns-clause-none c _ = none_at_all c.args.shape.now (HasNotCome c.args.came.now) c.loop-i.i c.loop-i-test.false c.loop-i.invariant
