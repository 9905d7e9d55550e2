use Rattle.axiom_checker.proofs.Vocabulary.{subst, IfSome, IsFirstBreach, err_from_is_err_and}
use Rattle.order_breaches.proofs.Breaches.{breach-is-real, no-memory-else}
use Rattle.axiom_checker.proofs.check.check_counted.Goals as goal

pub returns-in_err-layout-clause-judged : goal.returns-in_err-layout-clause-judged
returns-in_err-layout-clause-judged g c =
    let t = c.args.test.now in
    let order = c.args.order.now.order in
    let p = err_from_is_err_and c.from_residual.result c.from_residual.ensures.1 in
    rw (p.1, p.2) (record {
      valid = tt;
      accepted = no-memory-else t order c.in_err-layout.field-0.0 c.in_err-layout.ensures.breach;
      first = c.in_err-layout.ensures.breach;
    })

pub returns-in-Some-clause-judged : goal.returns-in-Some-clause-judged
returns-in-Some-clause-judged g c =
    let t = c.args.test.now in
    let order = c.args.order.now.order in
    let first : IsFirstBreach t order c.in-Some.breach =
    subst (λ o. IsFirstBreach t o c.in-Some.breach) c.in_ok-layout.ensures.same
    (subst (λ r. IfSome r (IsFirstBreach t c.lay_out.new.order.order)) c.in-Some.is c.in_ok-breach.ensures.breach.found) in
    record { valid = tt; accepted = λ e. absurd (breach-is-real t order c.in-Some.breach first e); first = λ _. first }
