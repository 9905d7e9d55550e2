use Rattle.tso_report.proofs.Vocabulary.{◌∙◌, ap, unwrap_or, arith}
use Rattle.tso_report.proofs.States.{lookup-states_of, count-few, sum-raised, states-raised}
use Rattle.tso_report.proofs.counters.raise.Goals as goal

pub overflow_add-count : goal.overflow_add-count
overflow_add-count c =
    let found =
    c.unwrap_or-count.ensures
    ∙ ap (λ o. unwrap_or o 0) (c.copied.ensures ∙ (c.get.ensures.value ∙ lookup-states_of c.args.values.items c.args.states.now.entries)) in
    omega (arith, count-few c.args.values.items c.args.states.now.entries, c.requires, found)

pub returns-clause-states : goal.returns-clause-states
returns-clause-states c =
    let found =
    c.unwrap_or-count.ensures
    ∙ ap (λ o. unwrap_or o 0) (c.copied.ensures ∙ (c.get.ensures.value ∙ lookup-states_of c.args.values.items c.args.states.now.entries)) in
    states-raised c.args.values c.unwrap_or-count.result c.args.states.now.entries c.insert.new.self.entries found c.in_ok-insert.ensures.entries

pub returns-clause-total : goal.returns-clause-total
returns-clause-total c =
    let found =
    c.unwrap_or-count.ensures
    ∙ ap (λ o. unwrap_or o 0) (c.copied.ensures ∙ (c.get.ensures.value ∙ lookup-states_of c.args.values.items c.args.states.now.entries)) in
    sum-raised c.args.values c.unwrap_or-count.result c.args.states.now.entries c.insert.new.self.entries
    c.insert.ensures.was_ordered found c.in_ok-insert.ensures.entries
