use Rattle.refutation_checker.proofs.Vocabulary.{◌≡◌, ◌∙◌, ◌++◌, ◌∷◌, [], List, ap, sym, subst, refl, append_assoc, fact_of, facts_of}
use Rattle.std.proofs.lemmas.Result.{IfOk-equal}
use Rattle.std.proofs.lemmas.List.{map-append}
use Rattle.tso_terms.specs.declared.condition.Prop.{Prop}
use Rattle.tso_terms.specs.Condition.{claim_of}
use Rattle.possible_reads.specs.Expressions.{Expression, register_left}
use Rattle.possible_reads.specs.Facts as given
use Rattle.reading_tables.specs.inner.Told.{held_of, all_made}
use Rattle.reading_tables.specs.declared.facts.Fact.{Fact}
use Rattle.refutation_checker.proofs.branches.+push_given.Goals as goal

pub returns-in_ok-push-in-RegIs : goal.returns-in_ok-push-in-RegIs
returns-in_ok-push-in-RegIs t c =
    let test = c.args.problem.now.test.now in
    let truth = c.args.truth in
    let value = c.in-RegIs.value in
    let makings = c.args.problem.now.expressions.makings.items in
    let old = c.args.branch.now.items in
    let holds : given.Fact = given.Holds (claim_of c.args.prop.now) truth in
    let told : Expression → List given.Fact = λ e. given.value_facts e value truth in
    let left = register_left test c.in-RegIs.core.0 c.in-RegIs.reg in
    let whole : holds ∷ told left ≡ given.given_by test (claim_of c.args.prop.now) truth =
    subst (λ (p : Prop). given.Holds (claim_of p) truth ∷ told left ≡ given.given_by test (claim_of p) truth) (sym c.in-RegIs.is) refl in
    let said = told (held_of (all_made makings) c.register_left.result) in
    IfOk-equal c.push_value.result (facts_of c.push_value.new.branch.items) _ _ (c.push_value.ensures makings)
    (ap (λ (fs : List Fact). facts_of fs ++ said) c.in_ok-push-in-RegIs.ensures.items
    ∙ (ap (λ fs. fs ++ said) (map-append fact_of old _)
    ∙ (append_assoc (facts_of old) (holds ∷ []) said
    ∙ (ap (λ e. facts_of old ++ (holds ∷ told e)) c.register_left.ensures ∙ ap (λ fs. facts_of old ++ fs) whole))))
