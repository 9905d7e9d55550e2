use Rattle.axiom_checker.proofs.Vocabulary.{length, ap, sym, ◌∙◌}
use Rattle.order_breaches.proofs.Matching.{of-programs}
use Rattle.order_breaches.proofs.Judging.{tells-met}
use Rattle.order_breaches.proofs.Coming.{zeros-are}
use Rattle.axiom_checker.proofs.check.breach_of_all.Goals as goal

pub pass-met-requires-clause-of_programs : goal.pass-met-requires-clause-of_programs
pass-met-requires-clause-of_programs g c =
    of-programs c.args.test.now c.args.order.now.order c.deref.result.now _ _ c.requires.test c.requires.matched (c.deref.ensures.value ∙ c.requires.made_is)
    c.requires.test.cores (ap length (c.deref_mut.ensures.value ∙ c.in_ok-words.ensures.items) ∙ c.initial_words.ensures.each)

pub pass-met-requires-clause-none_yet : goal.pass-met-requires-clause-none_yet
pass-met-requires-clause-none_yet g c k = (zeros-are 8 k, zeros-are 8 k)

pub returns-clause-breach : goal.returns-clause-breach
returns-clause-breach g c =
    let t = c.args.test.now in
    let words = c.deref_mut.ensures.value ∙ c.in_ok-words.ensures.items ∙ c.initial_words.ensures.value in
    tells-met t c.args.order.now.order c.pass-met.new.order.order c.pass-met.result c.first_met.result c.pass-met.ensures.same c.requires.matched
    (c.pass-met.ensures.met t (sym words) (c.deref.ensures.value ∙ c.requires.made_is)) (c.first_met.ensures.found t) (c.first_met.ensures.none t)
