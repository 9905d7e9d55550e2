use Rattle.found_reasons.proofs.Vocabulary.{◌≡◌, ◌∙◌, ap, refl, subst, sym, choices_along, LeadTo, is_step}
use Rattle.std.proofs.Common.{filter, rules}
use Rattle.tso_laws.proofs.WellFormed.{well-formed}
use Rattle.found_reasons.proofs.Filtering.{picked, passed, no-step}
use Rattle.execution_check.proofs.Growing.{all-made}
use Rattle.found_reasons.proofs.Unstored.{steps-lead}
use Rattle.found_reasons.proofs.choices.unbuffered_choices.Goals as goal
use Rattle.found_reasons.proofs.choices.unbuffered_choices.Goals.{in-Step+in_ok-push, in_default}

pub loop-choice-preserved : goal.loop-choice-preserved
loop-choice-preserved c = elim c.match-choice.branch [
  | in-Step+in_ok-push w ↦
      picked is_step c.deref-choice-items.result.now c.loop-choice.choice-index _ c.loop-choice.steps.items c.match-choice.steps.items _
      c.loop-choice-test.true (ap (λ v. v.items) w.steps-is ∙ w.in_ok-push.ensures.items) (search rules) c.loop-choice.invariant
  | in_default w ↦
      passed is_step c.deref-choice-items.result.now c.loop-choice.choice-index _ c.loop-choice.steps.items c.match-choice.steps.items _
      c.loop-choice-test.true (ap (λ v. v.items) w.steps-is) (no-step _ w.in_default.not-Step) c.loop-choice.invariant
]

pub returns : goal.returns
returns c =
    let t = c.args.test.now in
    let order = c.args.execution.now.order.items in
    let made = all-made (filter is_step) refl _ c.loop-choice.choice-index c.loop-choice.steps.items _ c.loop-choice-test.false c.loop-choice.invariant in
    let is : c.loop-choice.steps.items ≡ filter is_step (choices_along t order) =
    made ∙ ap (λ z. filter is_step z) (c.deref-choice-items.ensures.value ∙ c.in_ok-choices.ensures.along) in
    subst (λ z. LeadTo t 0 z order) (sym is)
    (steps-lead c.stalls_change_nothing.ensures c.runs_stop_where_they_end.ensures t order
    ((c.unbuffered_runs_reach_exactly_the_sequentially_consistent.ensures t order (well-formed t c.know_limits.ensures)).1 c.requires))
