use Rattle.tso_laws.proofs.WellFormed.{well-formed}
use Rattle.relational_model.proofs.Vocabulary.{◌∙◌, sym, ap, subst, most_depth, run, final_words, final_registers, IsCandidateOf, IsCandidateOfRun}
use Rattle.relational_model.proofs.Allowed.{Whole, is-allowed}
use Rattle.relational_model.proofs.Found.{has-candidate}
use Rattle.relational_model.proofs.Left.{leave-the-same}
use Rattle.relational_model.proofs.Converse.{is-of-an-execution}
use Rattle.relational_model.proofs.runs_have_exactly_the_allowed_candidates.Goals as goal

pub returns-clause-allowed : goal.returns-clause-allowed
returns-clause-allowed c = λ t depth choices test ended.
    let k = c.whole_orders_have_each_entry_once.ensures in
    let r = c.ended_runs_are_executions.ensures t depth choices (well-formed t test) ended in
    let order = (run t depth choices).commits in
    let whole : Whole t order = record
    { made = λ e i. k.made_by_the_programs t order e r.order.whole i; once = λ i j e p q. k.once t order i j e r.order.whole p q } in
    let d = has-candidate t order whole in
    let s = leave-the-same t order d.0 d.1 in
    let of : IsCandidateOfRun t (run t depth choices) d.0 = record
    { order = d.1; memory = r.memory ∙ sym s.memory; registers = r.registers ∙ sym s.registers } in
    (d.0, is-allowed t order d.0 whole r.order d.1, of)

pub returns-clause-reached : goal.returns-clause-reached
returns-clause-reached c = λ t d test a.
    let o = is-of-an-execution t d a in
    let h = (c.runs_reach_exactly_the_executions.ensures.at_the_greatest t o.order test).1 o.execution in
    let r = c.ended_runs_are_executions.ensures t most_depth h.choices (well-formed t test) h.ended in (
      h.choices,
      h.cores,
      h.ended,
      record {
        order = subst (λ es. IsCandidateOf t es d) (sym h.commits) o.candidate;
        memory = r.memory ∙ (ap (final_words t) h.commits ∙ sym o.state.memory);
        registers = r.registers ∙ (ap (final_registers t) h.commits ∙ sym o.state.registers);
      },
    )
