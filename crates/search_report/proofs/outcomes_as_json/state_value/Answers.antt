use Rattle.search_report.proofs.Vocabulary.{◌≡◌, ◌∙◌, subst, codes, IfOk, Data, string, no_members, object, put, view, condition_of}
use Rattle.search_report.proofs.Vocabulary.{truth_of, outcome_of, holds_in, value_members, state_value}
use Rattle.serde_json.specs.Data.{boolean}
use Rattle.scheduler.specs.Printed.{printed_choices}
use Rattle.std.proofs.Common.{rules}
use Rattle.serde_json.specs.declared.value.Value.{the_lemmas}
use Rattle.search_report.proofs.Truths.{names-there}
use Rattle.search_report.proofs.outcomes_as_json.state_value.Goals as goal

pub cond_holds-holds-requires : goal.cond_holds-holds-requires
cond_holds-holds-requires c =
    names-there c.args.test.now c.in-Some.cond.now c.args.state.now c.deref-in-Some.result.now
    c.deref-in-Some-2.result.now c.in-Some.ensures.test c.in-Some.ensures.value c.requires.state
    c.deref-in-Some.ensures.value c.deref-in-Some-2.ensures.value

pub returns-in-None : goal.returns-in-None
returns-in-None c =
    let t = c.args.test.now in
    let names = c.args.names.now in
    let values = c.args.values.now in
    let o = outcome_of c.args.state.now in
    let choices : c.deref.result.now ≡ o.choices = c.deref.ensures.value in
    let has_value = λ (d : Data). IfOk c.value.result (λ value. view value ≡ d) in
    subst has_value (λ i. state_value t names values o.choices (holds_in (c.in-None.ensures.value i) o))
    (subst has_value (λ i.
    object
    (put (codes "values") (object (value_members t names values)) (put (codes "choices") (string (printed_choices (choices i))) no_members)))
    (c.value.ensures _ (c.member-state_values.ensures _ _ (c.member.ensures _ _ c.new.ensures c.choices_value.ensures) c.values_value.ensures)))

pub returns-in-Some : goal.returns-in-Some
returns-in-Some c =
    let t = c.args.test.now in
    let names = c.args.names.now in
    let values = c.args.values.now in
    let o = outcome_of c.args.state.now in
    let claim = (condition_of c.in-Some.cond.now).claim in
    let choices : c.deref.result.now ≡ o.choices = c.deref.ensures.value in
    let registers : c.deref-in-Some.result.now ≡ o.registers = c.deref-in-Some.ensures.value in
    let memory : c.deref-in-Some-2.result.now ≡ o.memory = c.deref-in-Some-2.ensures.value in
    let holds : c.cond_holds-holds.result ≡ truth_of o.registers o.memory claim = c.cond_holds-holds.ensures ∙ (λ i. truth_of (registers i) (memory i) claim) in
    let has_value = λ (d : Data). IfOk c.value-in-Some.result (λ value. view value ≡ d) in
    subst has_value (λ i. state_value t names values o.choices (holds_in (c.in-Some.ensures.value i) o))
    (subst has_value
    (λ i.
    object (put (codes "holds") (boolean (holds i))
    (put (codes "values") (object (value_members t names values)) (put (codes "choices") (string (printed_choices (choices i))) no_members))))
    (c.value-in-Some.ensures _
    (c.member-in-Some.ensures _ (boolean c.cond_holds-holds.result)
    (c.member-state_values.ensures _ _ (c.member.ensures _ _ c.new.ensures c.choices_value.ensures) c.values_value.ensures)
    (search (rules, the_lemmas)))))
