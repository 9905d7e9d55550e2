use Rattle.relational_model.proofs.Allowed.{is-allowed}
use Rattle.relational_model.proofs.Left.{leave-the-same}
use Rattle.relational_model.proofs.candidates_of_executions_are_allowed.Goals as goal

pub returns-clause-allowed : goal.returns-clause-allowed
returns-clause-allowed c = λ t order d tso h.
    let k = c.whole_orders_have_each_entry_once.ensures in
    is-allowed t order d
    (record { made = λ e i. k.made_by_the_programs t order e tso.whole i; once = λ i j e p q. k.once t order i j e tso.whole p q }) tso h

pub returns-clause-same_state : goal.returns-clause-same_state
returns-clause-same_state c = λ t order d tso h. leave-the-same t order d h
