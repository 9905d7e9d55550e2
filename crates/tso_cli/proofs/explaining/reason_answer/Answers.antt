use Rattle.tso_cli.proofs.Vocabulary.{◌≡◌, ◌∙◌, false, map, string_bytes, ap, subst, sym, LeadTo, ShowsExecution, refutation_in}
use Rattle.tso_cli.proofs.Vocabulary.{unfinished_cases_in, status_of_verdict, IsWhyAnswer, never, allowed, Unended}
use Rattle.refutation_laws.specs.Models.{depth_of}
use Rattle.refutation_checker.specs.Trees.{lemma_of, node_of}
use Rattle.found_reasons.specs.Reasons.{IsReason}
use Rattle.found_reasons.specs.declared.reason.Reason.TheVariants as reasons
use Rattle.search_report.specs.Verdict.{is_as_claimed}
use Rattle.tso_cli.specs.Why.{too_many}
use Rattle.tso_cli.proofs.explaining.reason_answer.Goals as goal

pub returns-in_ok-text-in-Never : goal.returns-in_ok-text-in-Never
returns-in_ok-text-in-Never c =
    let t = c.args.test.now in
    let lemmas = map lemma_of c.in-Never.lemmas.items in
    let tree = map node_of c.in-Never.tree.items in
    let refuted = subst (λ model. IsReason model t c.cases-cases.result (reasons.Never c.in-Never.lemmas c.in-Never.tree)) c.model-model.ensures
    (subst (IsReason c.model-model.result t c.cases-cases.result) c.in-Never.is c.in_ok-lemmas.ensures) in
    let is : string_bytes c.in_ok-text-in-Never.text ≡ refutation_in c.args.json c.args.plan.model t lemmas tree =
    c.in_ok-text-in-Never.ensures
    ∙ (λ i.
    refutation_in c.args.json (c.model-model.ensures i) t (map lemma_of (c.deref.ensures.value i))
    (map node_of (c.deref-in-Never.ensures.value i))) in
    subst (λ how. IsWhyAnswer t c.args.plan c.args.json c.args.assert (string_bytes c.in_ok-text-in-Never.text) how)
    (sym (c.of_verdict.ensures ∙ ap (status_of_verdict c.args.assert) c.is_as_claimed.ensures))
    (subst (λ out.
    IsWhyAnswer t c.args.plan c.args.json c.args.assert out (status_of_verdict c.args.assert (is_as_claimed t.condition false)))
    (sym is) (never lemmas tree refuted))

pub returns-in_ok-text-in-Allowed : goal.returns-in_ok-text-in-Allowed
returns-in_ok-text-in-Allowed c =
    let t = c.args.test.now in
    let order = c.in-Allowed.execution.order.items in
    let out = string_bytes c.in_ok-text-in-Allowed.text in
    let choices = c.in_ok-choices-in-Allowed.choices.items in
    subst (λ how. IsWhyAnswer t c.args.plan c.args.json c.args.assert out how)
    (sym (c.of_verdict-in-Allowed.ensures ∙ ap (status_of_verdict c.args.assert) c.is_as_claimed-in-Allowed.ensures))
    (allowed out (record {
      order = order;
      choices = choices;
      met = subst (λ model. IsReason model t c.cases-cases.result (reasons.Allowed c.in-Allowed.execution)) c.model-model.ensures
          (subst (IsReason c.model-model.result t c.cases-cases.result) c.in-Allowed.is c.in_ok-lemmas.ensures);
      lead = subst (λ model. LeadTo t (depth_of model) choices order) c.model-model.ensures c.in_ok-choices-in-Allowed.ensures;
      shown = subst (λ model. ShowsExecution c.args.json model t order choices out) c.model-model.ensures
          (subst (λ cs. ShowsExecution c.args.json c.model-model.result t order cs out) c.deref-in-Allowed.ensures.value c.in_ok-text-in-Allowed.ensures);
    }))

pub returns-in_ok-text-in-TooMany : goal.returns-in_ok-text-in-TooMany
returns-in_ok-text-in-TooMany c =
    let t = c.args.test.now in
    let fewer = subst (λ cases. IsReason c.args.plan.model t cases reasons.TooMany) c.cases-cases.ensures.value
    (subst (λ model. IsReason model t c.cases-cases.result reasons.TooMany) c.model-model.ensures
    (subst (IsReason c.model-model.result t c.cases-cases.result) c.in-TooMany.is c.in_ok-lemmas.ensures)) in
    let is : string_bytes c.in_ok-text-in-TooMany.text ≡ unfinished_cases_in c.args.json t c.args.plan.cases =
    c.in_ok-text-in-TooMany.ensures ∙ ap (λ cases. unfinished_cases_in c.args.json t cases) c.cases-cases.ensures.value in
    subst (λ out. IsWhyAnswer t c.args.plan c.args.json c.args.assert out Unended) (sym is) (too_many fewer)
